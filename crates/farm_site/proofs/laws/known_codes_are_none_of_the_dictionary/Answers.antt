use Rattle.farm_site.proofs.FreeCodes.{known_from, no_row_from, not_standard_from}
use Rattle.farm_site.proofs.laws.known_codes_are_none_of_the_dictionary.Goals as goal

pub returns-clause-row : goal.returns-clause-row
returns-clause-row c = λ text site code file known. no_row_from code (known_from text site code file known)

pub returns-clause-standard : goal.returns-clause-standard
returns-clause-standard c = λ text site code file known. not_standard_from code (known_from text site code file known)
