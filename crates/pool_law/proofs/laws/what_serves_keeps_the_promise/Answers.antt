use Rattle.pool_law.proofs.Serving.{promised}
use Rattle.pool_law.proofs.laws.what_serves_keeps_the_promise.Goals as goal

pub returns : goal.returns
returns c = λ site happenings served checked s. promised c.sound_sites_keep_the_promise.ensures site happenings served checked s
