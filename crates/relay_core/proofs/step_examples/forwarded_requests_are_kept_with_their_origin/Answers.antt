use Rattle.std.proofs.Common.{codes, refl}
use Rattle.cc_view.specs.FirstDebit.{debit_message}
use Rattle.dia_avp.specs.AvpReading.{split_from, split_of}
use Rattle.relay_core.specs.RuleExample.{all_up, conn}
use Rattle.relay_core.proofs.OnlySteps.{forwards}
use Rattle.relay_core.proofs.step_examples.forwarded_requests_are_kept_with_their_origin.Goals as goal

pub returns : goal.returns
unfolding split_of split_from
returns c = forwards all_up (conn 1) (codes "c1.example") debit_message (conn 2) refl refl
