-- What the laws of the grammar speak of.
use Rattle.std.specs.Prelude.{◌≡◌, ◌≤◌, ℕ, List, ◌∷◌, ◌++◌, [], length, count_by, All, Contains, true, false}
use Rattle.std.specs.List.{list_any}
use Rattle.dia_avp.specs.declared.avp.RawAvp.{RawAvp}
use Rattle.dia_grammar.specs.declared.fault.GrammarFault.{GrammarFault}
use Rattle.dia_grammar.specs.declared.fault.GrammarFault.TheVariants.{Missing, Twice, UnknownM, FirstNotSessionId}
use Rattle.dia_base.specs.Codes.{session_id, requested_action}
use Rattle.dia_base.specs.Codes
use Rattle.dia_grammar.specs.Profile.{RequestProfile}
use Rattle.dia_grammar.specs.Grammar.{is_of, is_among, is_mandatory, is_known, is_unknown_mandatory, has_avp, begins_with_session, single_codes, required_codes, is_event_type, required_in}

-- what a Credit-Control-Request is, under a profile (RFC 8506, section 3.1)
pub record IsRequest (profile : RequestProfile) (avps : List RawAvp) : Type 0 where
  pub session : begins_with_session avps ≡ true
  pub known : All (λ avp. is_mandatory avp ≡ true → is_known profile avp ≡ true) avps
  pub single : All (λ code. count_by (is_of code) avps ≤ 1) single_codes
  pub required : All (λ code. has_avp code avps ≡ true) required_codes
  pub action : list_any is_event_type avps ≡ true → has_avp requested_action avps ≡ true

-- the AVP at this place has one of these codes, just one AVP before it has the same, and no two AVPs before it share one of them
pub record IsSecondAt (codes : List ℕ) (avps : List RawAvp) (at : ℕ) : Type 0 where
  pub before : List RawAvp
  pub avp : RawAvp
  pub behind : List RawAvp
  pub parts : avps ≡ before ++ avp ∷ behind
  pub place : length before ≡ at
  pub among : is_among codes avp ≡ true
  pub second : count_by (is_of avp.code) before ≡ 1
  pub first : All (λ code. count_by (is_of code) before ≤ 1) codes

-- the AVP at this place has M and is not known, and none before it is so
pub record IsUnknownAt (profile : RequestProfile) (avps : List RawAvp) (at : ℕ) : Type 0 where
  pub before : List RawAvp
  pub avp : RawAvp
  pub behind : List RawAvp
  pub parts : avps ≡ before ++ avp ∷ behind
  pub place : length before ≡ at
  pub unknown : is_unknown_mandatory profile avp ≡ true
  pub first : All (λ other. is_unknown_mandatory profile other ≡ false) before

-- what a fault says of the AVPs
abbrev pub IsFaultOf : RequestProfile → List RawAvp → GrammarFault → Type 0
IsFaultOf profile avps (Missing code) = Contains (session_id ∷ required_in avps) code × (has_avp code avps ≡ false)
IsFaultOf profile avps FirstNotSessionId = (has_avp session_id avps ≡ true) × (begins_with_session avps ≡ false)
IsFaultOf profile avps (UnknownM at) = IsUnknownAt profile avps at
IsFaultOf profile avps (Twice at) = IsSecondAt single_codes avps at

-- an AVP without its value
abbrev pub shape_of : RawAvp → RawAvp
shape_of avp = record { code = avp.code; flags = avp.flags; vendor = avp.vendor; value = [] }

-- a Route-Record, whatever its flags and its value (RFC 6733, section 6.7.1)
abbrev pub route_record : ℕ → List ℕ → RawAvp
route_record flags value = record { code = Codes.route_record; flags = flags; vendor = 0; value = value }
