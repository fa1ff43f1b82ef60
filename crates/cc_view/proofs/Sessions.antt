-- What an answer may carry back from, by cases.
use Rattle.std.proofs.Common.{◌≡◌, List, [], Bool, cond, Option, option_map, Result, Ok, Err, ap, ◌∙◌}
use Rattle.std.specs.Prelude.{option_to_list}
use Rattle.dia_avp.specs.declared.avp.RawAvp.{RawAvp}
use Rattle.dia_avp.specs.declared.fault.AvpFault.{AvpFault}
use Rattle.cc_view.specs.Answer.Carried.{carriable_avps, carries_too_much}
use Rattle.dia_base.specs.Codes.{session_id}
use Rattle.cc_view.specs.Answer.Writing.{octets_avp}

-- what is written for the Session-Id that is found
abbrev pub session_found : Option RawAvp → List RawAvp
session_found found = option_to_list (option_map (λ avp. octets_avp session_id avp.value) found)

pub carriable_avps-fault : (s : Result (List RawAvp) AvpFault) (fault : AvpFault) → s ≡ Err fault → carriable_avps s ≡ []
carriable_avps-fault s fault e = ap carriable_avps e

pub carriable_avps-by : (s : Result (List RawAvp) AvpFault) (avps : List RawAvp) (b : Bool) → s ≡ Ok avps → carries_too_much avps ≡ b → carriable_avps s ≡ cond b [] avps
carriable_avps-by s avps b e much = ap carriable_avps e ∙ ap (λ (x : Bool). cond x [] avps) much
