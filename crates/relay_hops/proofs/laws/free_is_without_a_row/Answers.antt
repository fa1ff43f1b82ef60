use Rattle.relay_hops.proofs.LookUps.{count-free, free-counted}
use Rattle.relay_hops.proofs.laws.free_is_without_a_row.Goals as goal

pub returns : goal.returns
returns c = λ rows conn hop. (count-free rows conn hop, free-counted rows conn hop)
