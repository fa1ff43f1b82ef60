use Rattle.std.proofs.Common.{refl}
use Rattle.farm_watch.proofs.Numbered.{seconds_apart, told_apart}
use Rattle.farm_watch.proofs.laws.own_requests_are_told_apart.Goals as goal

pub returns-clause-process : goal.returns-clause-process
returns-clause-process c = told_apart

pub returns-clause-restart : goal.returns-clause-restart
returns-clause-restart c = seconds_apart

pub returns-clause-hops : goal.returns-clause-hops
returns-clause-hops c = λ moment acts. refl
