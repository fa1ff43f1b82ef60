-- What an answer carries back of its request: Session-Id and each Proxy-Info (RFC 6733, section 6.2).
use Rattle.std.specs.Prelude.{ℕ, ◌+◌, List, [], sum_by, filter, find, Bool, ◌||◌, if◌then◌else◌, nat_lt, option_map, option_to_list, Result, Ok, Err}
use Rattle.dia_avp.specs.declared.avp.RawAvp.{RawAvp}
use Rattle.dia_avp.specs.declared.fault.AvpFault.{AvpFault}
use Rattle.dia_avp.specs.AvpList.{length_of, padding_of}
use Rattle.dia_base.specs.Codes.{session_id, proxy_info}
use Rattle.dia_grammar.specs.Grammar.{is_of}
use Rattle.cc_view.specs.Answer.Writing.{octets_avp}

abbrev pub is_carried : RawAvp → Bool
is_carried avp = is_of session_id avp || is_of proxy_info avp

-- the octets that an AVP takes with its padding
abbrev pub padded_len : RawAvp → ℕ
padded_len avp = length_of avp + padding_of (length_of avp)

-- the octets that Session-Id and Proxy-Info take together
abbrev pub carried_len : List RawAvp → ℕ
carried_len avps = sum_by padded_len (filter is_carried avps)

-- they take more than an answer may carry
abbrev pub carries_too_much : List RawAvp → Bool
carries_too_much avps = nat_lt 49152 (carried_len avps)

-- The AVPs of a body that an answer may carry back from: none where the body does not split, or
-- where too much would be carried.
abbrev pub carriable_avps : Result (List RawAvp) AvpFault → List RawAvp
carriable_avps (Ok avps) = if carries_too_much avps then [] else avps
carriable_avps (Err fault) = []

-- the first Session-Id, which is written with the flag M alone
abbrev pub session_in : List RawAvp → List RawAvp
session_in avps = option_to_list (option_map (λ avp. octets_avp session_id avp.value) (find (is_of session_id) avps))

-- each Proxy-Info, as it was received
abbrev pub proxies_in : List RawAvp → List RawAvp
proxies_in avps = filter (is_of proxy_info) avps
