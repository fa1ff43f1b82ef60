use Rattle.dia_dict.proofs.Unlisted.{other_vendor}
use Rattle.dia_dict.proofs.laws.vendors_have_no_rows.Goals as goal

pub returns-clause-vendor : goal.returns-clause-vendor
returns-clause-vendor c = other_vendor
