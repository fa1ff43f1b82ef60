use Rattle.pool_law.proofs.GoingOn.{finished_goes_on, goes_somewhere, in_hand_goes_on, may_die}
use Rattle.pool_law.proofs.laws.fronts_can_go_on.Goals as goal

pub returns : goal.returns
returns c = record {
  comes = λ site old from node place number comes. goes_somewhere site old from node place number comes;
  in_hand = λ site old node number moment written legal holds. in_hand_goes_on site old node number moment written legal holds;
  finished = λ site old node number written done. finished_goes_on site old node number written done;
  death = λ site old node is at. may_die site old node is at;
}
