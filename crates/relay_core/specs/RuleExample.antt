-- Worked examples: the relay r1.example between two clients, another relay and two fronts, and requests of which a rule
-- decides. Codes of AVPs and Result-Codes stand as numbers.
use Rattle.std.specs.Prelude.{ℕ, List, [], ◌∷◌, ◌++◌, codes, false, Result, Ok, Err}
use Rattle.dia_base.specs.declared.number.ConnId.{ConnId}
use Rattle.dia_base.specs.declared.number.NodeNo.{NodeNo}
use Rattle.dia_base.specs.declared.node.NodeKind.TheVariants.{Client, Front, Relay}
use Rattle.dia_avp.specs.declared.avp.RawAvp.{RawAvp}
use Rattle.dia_avp.specs.AvpList.{raw_avp, written_list}
use Rattle.dia_message.specs.declared.message.Message.{Message}
use Rattle.cc_view.specs.FirstDebit.{debit_header}
use Rattle.cc_view.specs.ResultNumber.{number_of}
use Rattle.cc_view.specs.declared.refusal.Refusal.{Refusal}
use Rattle.relay_peers.specs.declared.peers.LinkedPeer.{LinkedPeer}
use Rattle.relay_hops.specs.declared.row.Row.{Row}
use Rattle.relay_routes.specs.RouteExample.{node, r2, f1, f2, routes_of_r1}
use Rattle.relay_core.specs.declared.node.RelaySite.{RelaySite}
use Rattle.relay_core.specs.Connecting.{new_relay, after_up}
use Rattle.relay_core.specs.Failover.{after_end}
use Rattle.relay_core.specs.RelayState.{RelayState, with_rows}
use Rattle.relay_core.specs.Verdict.{decision}

-- ---- the relay

abbrev pub c1 : NodeNo
c1 = node 4

abbrev pub peers_of_r1 : List LinkedPeer
peers_of_r1 =
    record { peer = r2; name = codes "r2.example"; kind = Relay }
    ∷ record { peer = f1; name = codes "f1.example"; kind = Front }
    ∷ record { peer = f2; name = codes "f2.example"; kind = Front }
    ∷ record { peer = c1; name = codes "c1.example"; kind = Client }
    ∷ record { peer = node 5; name = codes "c2.example"; kind = Client } ∷ []

-- Credit control of ocs.example goes to f1, f2 and r2, in this order, and that of loop.example to r2.
abbrev pub site_of_r1 : RelaySite
site_of_r1 = record { name = codes "r1.example"; realm = codes "ocs.example"; peers = peers_of_r1; routes = routes_of_r1 }

abbrev pub conn : ℕ → ConnId
conn number = record { 0 = number }

-- c1 is up on connection 1, f1 on 2, f2 on 3 and r2 on 4; c2 is not up
abbrev pub all_up : RelayState
all_up = after_up (after_up (after_up (after_up (new_relay site_of_r1) c1 (conn 1)) f1 (conn 2)) f2 (conn 3)) r2 (conn 4)

-- the same where a connection has ended
abbrev pub but_for : ℕ → RelayState → RelayState
but_for number relay = record relay { node = after_end (conn number) relay.node }

abbrev pub no_front_up : RelayState
no_front_up = but_for 3 (but_for 2 all_up)

-- nobody that a request may go to is up
abbrev pub client_up : RelayState
client_up = but_for 4 no_front_up

-- ---- requests

-- an AVP of vendor 0 with the flag M
abbrev pub avp : ℕ → List ℕ → RawAvp
avp code value = raw_avp code 64 0 value

abbrev pub session : RawAvp
session = avp 263 (codes "c1;1;1")

-- Destination-Host, Destination-Realm and Route-Record
abbrev pub host : List ℕ → RawAvp
host name = avp 293 name

abbrev pub realm : List ℕ → RawAvp
realm name = avp 283 name

abbrev pub record_by : List ℕ → RawAvp
record_by name = avp 282 name

abbrev pub ocs : RawAvp
ocs = realm (codes "ocs.example")

abbrev pub nowhere : RawAvp
nowhere = realm (codes "nowhere.example")

-- of credit control, with P, and with these AVPs behind a Session-Id
abbrev pub request_with : List RawAvp → Message
request_with avps = record { header = debit_header; body = written_list (session ∷ avps) }

abbrev pub without_p : Message → Message
without_p request = record { header = record request.header { proxiable = false }; body = request.body }

abbrev pub of_application : ℕ → Message → Message
of_application app request = record { header = record request.header { application = app }; body = request.body }

-- with octets behind its body that begin no AVP
abbrev pub cut_off : Message → Message
cut_off request = record { header = request.header; body = request.body ++ 0 ∷ 0 ∷ 1 ∷ 27 ∷ [] }

-- an AVP of vendor 10415
abbrev pub of_vendor : ℕ → List ℕ → RawAvp
of_vendor code value = raw_avp code 192 10415 value

-- of credit control, with P, and with this body
abbrev pub of_body : List ℕ → Message
of_body body = record { header = debit_header; body = body }

-- ---- what becomes of them

abbrev pub told_by : Result ConnId Refusal → Result ℕ ℕ
told_by (Ok to) = Ok to.0
told_by (Err refusal) = Err (number_of refusal.code)

-- the connection that a request of c1 goes out on, or the Result-Code that it is refused with
abbrev pub way_of : RelayState → Message → Result ℕ ℕ
way_of relay request = told_by (decision relay (codes "c1.example") request)

-- the same of a request of another peer, where all are up
abbrev pub way_from : List ℕ → List RawAvp → Result ℕ ℕ
way_from sender avps = told_by (decision all_up sender (request_with avps))

-- the same of one of c1 with these AVPs, where all are up
abbrev pub way : List RawAvp → Result ℕ ℕ
way avps = way_of all_up (request_with avps)

-- where these requests are pending
abbrev pub way_beside : List Row → List RawAvp → Result ℕ ℕ
way_beside rows avps = way_of (with_rows rows all_up) (request_with avps)
