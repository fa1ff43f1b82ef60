-- The AVPs of a request as its grammar counts them under a profile: what the profile tolerates is left out or put in. Nothing else is read in these.
use Rattle.std.specs.Prelude.{ℕ, nat_eq, List, [], ◌∷◌, ◌++◌, length, filter, find, Bool, false, not, ◌&&◌, ◌||◌, ◌==◌, if◌then◌else◌, Option, None, Some, option_to_list}
use Rattle.std.specs.List.{flat_map}
use Rattle.std.specs.Option.{option_or}
use lib.Pointwise.{pointwise}
use Rattle.byteorder.specs.Endian.{big_number}
use Rattle.dia_avp.specs.declared.avp.RawAvp.{RawAvp}
use Rattle.dia_grammar.specs.Profile.{RequestProfile, tolerates_application_in_group, tolerates_origin_twice}
use Rattle.dia_grammar.specs.Grammar.{is_among, is_of}
use Rattle.dia_base.specs.Codes.{auth_application_id, credit_control_application, origin_host, origin_realm}
use Rattle.cc_view.specs.RequestView.Counts.{members_of}

-- the code of Vendor-Specific-Application-Id (RFC 6733, section 6.11)
abbrev pub vendor_specific_application_id : ℕ
vendor_specific_application_id = 260

-- the two have the same octets: letters in another case are other octets
unfoldable pub is_alike : RawAvp → RawAvp → Bool
is_alike first avp = pointwise nat_eq first.value avp.value

-- ---- origin-twice

-- there is such a first one, and the AVP has its octets
abbrev pub is_said : Option RawAvp → RawAvp → Bool
is_said None avp = false
is_said (Some first) avp = is_alike first avp

-- an AVP of this code that says what the first of this code says, which stands before it
abbrev pub repeats : ℕ → Option RawAvp → RawAvp → Bool
repeats code first avp = is_of code avp && is_said first avp

-- an Origin-Host or Origin-Realm that repeats the first one, where that is tolerated
abbrev pub is_left_out : RequestProfile → Option RawAvp → Option RawAvp → RawAvp → Bool
is_left_out profile host realm avp = tolerates_origin_twice profile && (repeats origin_host host avp || repeats origin_realm realm avp)

-- the first AVP of this code, once this one has come
abbrev pub first_with : ℕ → Option RawAvp → RawAvp → Option RawAvp
first_with code first avp = option_or first (if is_of code avp then Some avp else None)

-- an AVP behind the first Origin-Host and Origin-Realm, unless it repeats them
abbrev pub kept_one : RequestProfile → Option RawAvp → Option RawAvp → RawAvp → List RawAvp
kept_one profile host realm avp = if is_left_out profile host realm avp then [] else avp ∷ []

-- AVPs behind the first Origin-Host and Origin-Realm, without those that repeat them
abbrev pub kept_behind : RequestProfile → Option RawAvp → Option RawAvp → List RawAvp → List RawAvp
kept_behind profile host realm [] = []
kept_behind profile host realm (avp ∷ avps) =
    if is_left_out profile host realm avp then kept_behind profile (first_with origin_host host avp) (first_with origin_realm realm avp) avps
    else avp ∷ kept_behind profile (first_with origin_host host avp) (first_with origin_realm realm avp) avps

-- ---- application-in-group

-- the Auth-Application-Ids in a Vendor-Specific-Application-Id
abbrev pub applications_inside : RawAvp → List RawAvp
applications_inside avp = if is_of vendor_specific_application_id avp then filter (is_of auth_application_id) (members_of avp) else []

abbrev pub inner_applications : List RawAvp → List RawAvp
inner_applications avps = flat_map applications_inside avps

abbrev pub is_credit_control : RawAvp → Bool
is_credit_control avp = length avp.value == 4 && big_number 4 avp.value == credit_control_application

-- it says something else than the request's own Auth-Application-Id
abbrev pub is_new : RawAvp → RawAvp → Bool
is_new own application = not (is_alike own application)

-- Where the request has an Auth-Application-Id of its own, each one in a group that says something else is put in, and so is a second
-- one; where it has none, the first in a group that is of Credit-Control stands for it.
abbrev pub stand_ins_by : Option RawAvp → List RawAvp → List RawAvp
stand_ins_by None inner = option_to_list (find is_credit_control inner)
stand_ins_by (Some own) inner = filter (is_new own) inner

-- of several of its own the first counts: the second is one too many anyway
abbrev pub stand_ins : List RawAvp → List RawAvp
stand_ins avps = stand_ins_by (find (is_of auth_application_id) avps) (inner_applications avps)

abbrev pub put_in : RequestProfile → List RawAvp → List RawAvp
put_in profile avps = if tolerates_application_in_group profile then stand_ins avps else []

-- none of what a profile may leave out or put in
abbrev pub is_untouched : RawAvp → Bool
is_untouched avp = not (is_among (origin_host ∷ origin_realm ∷ auth_application_id ∷ []) avp)

-- ---- the whole

unfoldable pub counted : RequestProfile → List RawAvp → List RawAvp
counted profile avps = kept_behind profile None None avps ++ put_in profile avps
