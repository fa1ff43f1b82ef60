-- What a server knows beside the dictionary, and what it tolerates in a request beside what the grammar has.
use Rattle.std.specs.Prelude.{ℕ, List, [], Bool, true, false}
use Rattle.std.specs.List.{list_any}
use Rattle.dia_grammar.specs.declared.profile.Profile.{Profile}
use Rattle.dia_grammar.specs.declared.profile.Tolerance.{Tolerance}
use Rattle.dia_grammar.specs.declared.profile.Tolerance.TheVariants.{OriginTwice, ApplicationInGroup}

-- AVPs of these vendors are known, and those of vendor 0 with these codes
pub record RequestProfile : Type 0 where
  pub vendors : List ℕ
  pub known : List ℕ
  pub tolerated : List Tolerance

-- a profile as the code holds it
abbrev pub profile_of : Profile → RequestProfile
profile_of profile = record { vendors = profile.vendors.now; known = profile.known.now; tolerated = profile.tolerated.now }

-- the profile that has vendors and nothing more
abbrev pub strict : List ℕ → RequestProfile
strict vendors = record { vendors = vendors; known = []; tolerated = [] }

abbrev pub is_origin_twice : Tolerance → Bool
is_origin_twice OriginTwice = true
is_origin_twice ApplicationInGroup = false

abbrev pub is_application_in_group : Tolerance → Bool
is_application_in_group OriginTwice = false
is_application_in_group ApplicationInGroup = true

abbrev pub tolerates_origin_twice : RequestProfile → Bool
tolerates_origin_twice profile = list_any is_origin_twice profile.tolerated

abbrev pub tolerates_application_in_group : RequestProfile → Bool
tolerates_application_in_group profile = list_any is_application_in_group profile.tolerated
