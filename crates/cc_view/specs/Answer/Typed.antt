-- Octets that a receiver with the dictionary reads, at every depth (RFC 6733, sections 4.2 to 4.4).
use Rattle.std.specs.Prelude.{◌≡◌, ◌⊎◌, ℕ, List, [], ◌∷◌, All, Bool, true, false, Ok, IfSome}
use Rattle.std.specs.Option.{option_map_or}
use Rattle.dia_base.specs.Codes.{cc_service_specific_units, cc_time, cc_total_octets, proxy_info}
use Rattle.dia_avp.specs.declared.avp.RawAvp.{RawAvp}
use Rattle.dia_avp.specs.AvpReading.{split_of}
use Rattle.dia_dict.specs.declared.row.Kind.TheVariants.{Grouped}
use Rattle.dia_dict.specs.Dictionary.{row_of}
use Rattle.dia_dict.specs.Values.{same_kind}
use Rattle.dia_grammar.specs.Grammar.{is_of}
use Rattle.cc_view.specs.declared.reply.CcReply.{CcReply}
use Rattle.cc_view.specs.declared.reply.ServiceReply.{ServiceReply}
use Rattle.cc_view.specs.RequestView.Readable.{IsTyped}

-- the dictionary has it as a group
abbrev pub is_group : RawAvp → Bool
is_group avp = option_map_or (λ row. same_kind row.kind Grouped) (row_of avp.code avp.vendor) false

-- Each AVP has a row, and a value of its kind; that of a group splits into AVPs that are so again. What a Proxy-Info
-- holds is that of the relay that added it, and goes back as it was received (RFC 6733, section 6.2).
pub data AreTypedInDepth : List RawAvp → Type 0 where
  none : AreTypedInDepth []
  value : (avp : RawAvp) (avps : List RawAvp) → is_group avp ≡ false → IsTyped avp → AreTypedInDepth avps → AreTypedInDepth (avp ∷ avps)
  group : (avp : RawAvp) (members avps : List RawAvp) → is_group avp ≡ true → split_of avp.value ≡ Ok members → AreTypedInDepth members → AreTypedInDepth avps → AreTypedInDepth (avp ∷ avps)
  carried : (avp : RawAvp) (avps : List RawAvp) → is_of proxy_info avp ≡ true → AreTypedInDepth avps → AreTypedInDepth (avp ∷ avps)

-- the octets split into such AVPs
abbrev pub SplitTyped : List ℕ → Type 0
SplitTyped octets = (avps : List RawAvp) × (split_of octets ≡ Ok avps) × AreTypedInDepth avps

-- the code of an AVP for units (RFC 8506, sections 8.21, 8.23 and 8.26)
abbrev pub IsUnitCode : ℕ → Type 0
IsUnitCode code = (code ≡ cc_time) ⊎ ((code ≡ cc_total_octets) ⊎ (code ≡ cc_service_specific_units))

abbrev pub HasUnits : ServiceReply → Type 0
HasUnits service = IfSome service.kind (λ kind. IsUnitCode kind.0)

-- what a reply grants is in units that have an AVP
abbrev pub GrantsUnits : CcReply → Type 0
GrantsUnits reply = All HasUnits reply.services
