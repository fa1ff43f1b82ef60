use Rattle.farm_site.proofs.Refusing.{why_octets}
use Rattle.farm_site.proofs.site_of_octets.Goals as goal

pub returns-in-Ok-clause-fault : goal.returns-in-Ok-clause-fault
returns-in-Ok-clause-fault c = why_octets c.args.octets.now c.in-Ok.text.now c.site_of.result c.in-Ok.ensures.cases.0 c.site_of.ensures.fault
