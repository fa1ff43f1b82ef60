-- Worked examples: a relay r1 and a front f1 that it connects to, and what they write to each other.
use Rattle.std.specs.Prelude.{ℕ, List, [], ◌∷◌, ◌++◌, None, Some, codes}
use Rattle.dia_base.specs.declared.number.Moment.{Moment}
use Rattle.dia_base.specs.declared.number.NodeNo.{NodeNo}
use Rattle.dia_avp.specs.AvpExample.{from_hex}
use Rattle.dia_message.specs.declared.message.Message.{Message}
use Rattle.dia_message.specs.Stream.{message_in}
use Rattle.farm_watch.specs.Capabilities.{avps_in, greeting_to}
use Rattle.farm_watch.specs.Table.{Connection}
use Rattle.farm_watch.specs.declared.reading.Greeting.{Greeting}
use Rattle.farm_watch.specs.declared.site.Application.TheVariants.{Relay, CreditControl}
use Rattle.farm_watch.specs.declared.site.Goodbyes.TheVariants.{EndAtOnce, LeaveClosing}
use Rattle.farm_watch.specs.declared.site.HostAddress.TheVariants.{V4, V6}
use Rattle.farm_watch.specs.declared.site.WatchSite.{WatchSite}
use Rattle.farm_watch.specs.declared.watch.Waits.{Waits}
use Rattle.farm_watch.specs.declared.watch.Waits.TheVariants.{ForMessage, ForDwa, ForClose}

abbrev pub node : ℕ → NodeNo
node n = record { 0 = n }

abbrev pub at : ℕ → Moment
at n = record { 0 = n }

-- ---- the nodes

abbrev pub r1 : WatchSite
r1 = record {
  name = codes "r1.example";
  realm = codes "ocs.example";
  address = V4 (127 ∷ 0 ∷ 0 ∷ 1 ∷ []);
  application = Relay;
  advertised = [];
  neighbours = record { name = codes "c1.example"; node = node 4 } ∷ [];
  interval = 30000;
  goodbyes = EndAtOnce;
  state = None;
}

-- r1 where it leaves closing to a node that says goodbye
abbrev pub r1_leaving : WatchSite
r1_leaving = record r1 { goodbyes = LeaveClosing }

-- r1 may connect to it
abbrev pub f1 : WatchSite
f1 = record r1 { name = codes "f1.example"; application = CreditControl; neighbours = record { name = codes "r1.example"; node = node 0 } ∷ [] }

-- a client with an address of IPv6
abbrev pub c1 : WatchSite
c1 = record f1 { name = codes "c1.example"; address = V6 (32 ∷ 1 ∷ 13 ∷ 184 ∷ 0 ∷ 0 ∷ 0 ∷ 0 ∷ 0 ∷ 0 ∷ 0 ∷ 0 ∷ 0 ∷ 0 ∷ 0 ∷ 1 ∷ []) }

-- r1 where it speaks credit control for the vendors 10415 and 193 too
abbrev pub r1_of_vendors : WatchSite
r1_of_vendors = record r1 { advertised = 10415 ∷ 193 ∷ [] }

-- f1 where it speaks credit control for the vendor 10415 too
abbrev pub f1_of_vendor : WatchSite
f1_of_vendor = record f1 { advertised = 10415 ∷ [] }

-- f1 with the Origin-State-Id 1764273600, which is 6928adc0, and r1 with it and with those vendors
abbrev pub f1_of_state : WatchSite
f1_of_state = record f1 { state = Some 1764273600 }

abbrev pub r1_of_state : WatchSite
r1_of_state = record r1_of_vendors { state = Some 1764273600 }

-- ---- what they write

abbrev pub cer_text : List ℕ
cer_text =
    codes "0100008080000101000000000000000100000001"
    ++ codes "000001084000001272312e6578616d706c65000000000128400000136f63732e6578616d706c6500000001014000000e00017f00000100000000010a"
    ++ codes "4000000c000000000000010d0000001b4469616d657465722072656c6179206661726d00000001024000000cffffffff"

abbrev pub cer_of_client_text : List ℕ
cer_of_client_text =
    codes "0100008c80000101000000000000000100000001"
    ++ codes "000001084000001263312e6578616d706c65000000000128400000136f63732e6578616d706c6500000001014000001a000220010db8000000000000"
    ++ codes "00000000000100000000010a4000000c000000000000010d0000001b4469616d657465722072656c6179206661726d00000001024000000c00000004"

abbrev pub cea_text : List ℕ
cea_text =
    codes "0100008c00000101000000000000000100000001"
    ++ codes "0000010c4000000c000007d1000001084000001266312e6578616d706c65000000000128400000136f63732e6578616d706c6500000001014000000e"
    ++ codes "00017f00000100000000010a4000000c000000000000010d0000001b4469616d657465722072656c6179206661726d00000001024000000c00000004"

-- DIAMETER_NO_COMMON_APPLICATION
abbrev pub refusing_cea_text : List ℕ
refusing_cea_text =
    codes "0100008c00000101000000000000000100000001"
    ++ codes "0000010c4000000c00001392000001084000001266312e6578616d706c65000000000128400000136f63732e6578616d706c6500000001014000000e"
    ++ codes "00017f00000100000000010a4000000c000000000000010d0000001b4469616d657465722072656c6179206661726d00000001024000000c00000004"

-- behind the same AVPs, for each vendor Supported-Vendor-Id, and a Vendor-Specific-Application-Id of two AVPs
abbrev pub cer_of_vendors_text : List ℕ
cer_of_vendors_text =
    codes "010000d880000101000000000000000100000001"
    ++ codes "000001084000001272312e6578616d706c65000000000128400000136f63732e6578616d706c6500000001014000000e00017f00000100000000010a"
    ++ codes "4000000c000000000000010d0000001b4469616d657465722072656c6179206661726d00000001024000000cffffffff"
    ++ codes "000001094000000c000028af00000104400000200000010a4000000c000028af000001024000000c00000004"
    ++ codes "000001094000000c000000c100000104400000200000010a4000000c000000c1000001024000000c00000004"

abbrev pub cea_of_vendor_text : List ℕ
cea_of_vendor_text =
    codes "010000b800000101000000000000000100000001"
    ++ codes "0000010c4000000c000007d1000001084000001266312e6578616d706c65000000000128400000136f63732e6578616d706c6500000001014000000e"
    ++ codes "00017f00000100000000010a4000000c000000000000010d0000001b4469616d657465722072656c6179206661726d00000001024000000c00000004"
    ++ codes "000001094000000c000028af00000104400000200000010a4000000c000028af000001024000000c00000004"

-- cea_text with Origin-State-Id behind it, and cer_of_vendors_text with it in front of the vendors
abbrev pub cea_of_state_text : List ℕ
cea_of_state_text =
    codes "0100009800000101000000000000000100000001"
    ++ codes "0000010c4000000c000007d1000001084000001266312e6578616d706c65000000000128400000136f63732e6578616d706c6500000001014000000e"
    ++ codes "00017f00000100000000010a4000000c000000000000010d0000001b4469616d657465722072656c6179206661726d00000001024000000c00000004"
    ++ codes "000001164000000c6928adc0"

abbrev pub cer_of_state_text : List ℕ
cer_of_state_text =
    codes "010000e480000101000000000000000100000001"
    ++ codes "000001084000001272312e6578616d706c65000000000128400000136f63732e6578616d706c6500000001014000000e00017f00000100000000010a"
    ++ codes "4000000c000000000000010d0000001b4469616d657465722072656c6179206661726d00000001024000000cffffffff"
    ++ codes "000001164000000c6928adc0"
    ++ codes "000001094000000c000028af00000104400000200000010a4000000c000028af000001024000000c00000004"
    ++ codes "000001094000000c000000c100000104400000200000010a4000000c000000c1000001024000000c00000004"

-- cer_text with the End-to-End Identifier dc0fffff: the low 12 bits of 1764273600 are dc0, and the count is fffff
abbrev pub cer_by_clock_text : List ℕ
cer_by_clock_text =
    codes "01000080800001010000000000000001dc0fffff"
    ++ codes "000001084000001272312e6578616d706c65000000000128400000136f63732e6578616d706c6500000001014000000e00017f00000100000000010a"
    ++ codes "4000000c000000000000010d0000001b4469616d657465722072656c6179206661726d00000001024000000cffffffff"

abbrev pub dwr_text : List ℕ
dwr_text = codes "0100003c80000118000000000000000100000001000001084000001272312e6578616d706c65000000000128400000136f63732e6578616d706c6500"

-- dwr_text with Origin-State-Id behind it, and what f1 answers to dwr_text with it
abbrev pub dwr_of_state_text : List ℕ
dwr_of_state_text =
    codes "010000488000011800000000000000010000000100000108"
    ++ codes "4000001272312e6578616d706c65000000000128400000136f63732e6578616d706c6500000001164000000c6928adc0"

abbrev pub dwa_of_state_text : List ℕ
dwa_of_state_text =
    codes "0100005400000118000000000000000100000001"
    ++ codes "0000010c4000000c000007d1000001084000001266312e6578616d706c65000000000128400000136f63732e6578616d706c6500000001164000000c6928adc0"

-- dwr_text with the count 0
abbrev pub dwr_by_clock_text : List ℕ
dwr_by_clock_text = codes "0100003c800001180000000000000001dc000000000001084000001272312e6578616d706c65000000000128400000136f63732e6578616d706c6500"

abbrev pub dwr_of_front_text : List ℕ
dwr_of_front_text = codes "0100003c80000118000000000000000100000002000001084000001266312e6578616d706c65000000000128400000136f63732e6578616d706c6500"

abbrev pub dwa_text : List ℕ
dwa_text =
    codes "0100004800000118000000000000000100000002"
    ++ codes "0000010c4000000c000007d1000001084000001272312e6578616d706c65000000000128400000136f63732e6578616d706c6500"

abbrev pub dpr_text : List ℕ
dpr_text =
    codes "010000488000011a000000000000000100000001"
    ++ codes "000001084000001272312e6578616d706c65000000000128400000136f63732e6578616d706c6500000001114000000c00000000"

abbrev pub dpr_of_front_text : List ℕ
dpr_of_front_text =
    codes "010000488000011a000000000000000100000002"
    ++ codes "000001084000001266312e6578616d706c65000000000128400000136f63732e6578616d706c6500000001114000000c00000000"

-- dpr_of_front_text with BUSY, with DO_NOT_WANT_TO_TALK_TO_YOU, and with the number 3, which is none
abbrev pub busy_text : List ℕ
busy_text =
    codes "010000488000011a000000000000000100000002"
    ++ codes "000001084000001266312e6578616d706c65000000000128400000136f63732e6578616d706c6500000001114000000c00000001"

abbrev pub unwanted_text : List ℕ
unwanted_text =
    codes "010000488000011a000000000000000100000002"
    ++ codes "000001084000001266312e6578616d706c65000000000128400000136f63732e6578616d706c6500000001114000000c00000002"

abbrev pub unknown_cause_text : List ℕ
unknown_cause_text =
    codes "010000488000011a000000000000000100000002"
    ++ codes "000001084000001266312e6578616d706c65000000000128400000136f63732e6578616d706c6500000001114000000c00000003"

abbrev pub dpa_of_relay_text : List ℕ
dpa_of_relay_text =
    codes "010000480000011a000000000000000100000002"
    ++ codes "0000010c4000000c000007d1000001084000001272312e6578616d706c65000000000128400000136f63732e6578616d706c6500"

abbrev pub dpa_text : List ℕ
dpa_text =
    codes "010000480000011a000000000000000100000001"
    ++ codes "0000010c4000000c000007d1000001084000001266312e6578616d706c65000000000128400000136f63732e6578616d706c6500"

-- ---- what others may write

-- Credit-Control-Answer, with a Result-Code alone
abbrev pub cca_text : List ℕ
cca_text = codes "01000020000001100000000480000001000000050000010c4000000c000007d1"

-- Auth-Application-Id 3
abbrev pub other_application_text : List ℕ
other_application_text =
    codes "0100004880000101000000000000000100000001"
    ++ codes "000001084000001272312e6578616d706c65000000000128400000136f63732e6578616d706c6500000001024000000c00000003"

-- the relay's name in capitals, with Auth-Application-Id 4 inside Vendor-Specific-Application-Id
abbrev pub application_of_vendor_text : List ℕ
application_of_vendor_text =
    codes "0100005c80000101000000000000000100000001"
    ++ codes "000001084000001252312e6578616d706c65000000000128400000136f63732e6578616d706c650000000104400000200000010a4000000c000028af"
    ++ codes "000001024000000c00000004"

abbrev pub message : List ℕ → Message
message text = message_in (from_hex text)

-- how the front greets who writes this, where these nodes are up
abbrev pub greeting_at_front : List NodeNo → List ℕ → Greeting
greeting_at_front up text = greeting_to f1 up (avps_in (message text).body)

-- ---- connections

abbrev pub waiting : Waits → Connection
waiting waits = record { waits = waits; sent = 0 }

-- up, and heard last at 1000
abbrev pub heard : Connection
heard = waiting (ForMessage (at 1000))

-- it has sent its first DWR at 31000
abbrev pub asked : Connection
asked = record { waits = ForDwa (at 31000); sent = 1 }

-- the front has said goodbye at 2000
abbrev pub parting : Connection
parting = waiting (ForClose (at 2000))
