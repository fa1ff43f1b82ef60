use Rattle.std.proofs.Common.{[], codes, refl}
use Rattle.cc_view.specs.Answer.{refusal_of}
use Rattle.cc_view.specs.FirstDebit.{debit_message}
use Rattle.cc_view.specs.Refusal.{refusal_with}
use Rattle.cc_view.specs.declared.code.ResultCode.TheVariants.{ApplicationUnsupported, UnableToDeliver}
use Rattle.dia_avp.specs.AvpReading.{split_from, split_of}
use Rattle.relay_core.specs.RuleExample.{all_up, client_up, conn, request_with}
use Rattle.relay_core.proofs.OnlySteps.{refuses}
use Rattle.relay_core.proofs.step_examples.refused_requests_are_answered_and_not_kept.Goals as goal

pub returns-clause-nobody : goal.returns-clause-nobody
unfolding split_of split_from refusal_of
returns-clause-nobody c = refuses all_up (conn 1) (codes "c1.example") (request_with []) (refusal_with ApplicationUnsupported) refl

pub returns-clause-nowhere : goal.returns-clause-nowhere
unfolding split_of split_from refusal_of
returns-clause-nowhere c = refuses client_up (conn 1) (codes "c1.example") debit_message (refusal_with UnableToDeliver) refl
