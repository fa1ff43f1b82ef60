use Rattle.farm_endpoints.proofs.Callers.{callers_same}
use Rattle.farm_endpoints.proofs.laws.callers_call.Goals as goal

pub returns : goal.returns
returns c = λ site from to. callers_same from to site.links
