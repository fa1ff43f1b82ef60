use Rattle.farm_site.proofs.Reading.{one_site_of}
use Rattle.farm_site.proofs.laws.one_site.Goals as goal

pub returns : goal.returns
returns c = λ text a b p q. one_site_of text a b p q
