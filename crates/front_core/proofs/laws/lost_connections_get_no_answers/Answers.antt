use Rattle.std.proofs.Common.{◌≡◌, [], Ok, refl}
use Rattle.dia_avp.specs.AvpReading.{split_from, split_of}
use Rattle.dia_grammar.specs.Profile.{strict}
use Rattle.cc_view.specs.Answer.{answer_to}
use Rattle.cc_view.specs.FirstDebit.{debit_message, debit_request}
use Rattle.cc_view.specs.RequestView.{view_of, view_under}
use Rattle.cc_book.specs.AccountMachine.{kept_reply, postings_of, reply_to}
use Rattle.front_core.specs.FrontRun.{run_of}
use Rattle.front_core.proofs.laws.lost_connections_get_no_answers.Goals as goal

pub returns-clause-before_the_charge : goal.returns-clause-before_the_charge
unfolding view_of run_of kept_reply postings_of reply_to answer_to split_of split_from
returns-clause-before_the_charge c =
    let viewed : view_under (strict []) debit_message ≡ Ok debit_request = c.first_debit.ensures.viewed in
    rw viewed refl

pub returns-clause-after_the_charge : goal.returns-clause-after_the_charge
unfolding view_of run_of kept_reply postings_of reply_to answer_to split_of split_from
returns-clause-after_the_charge c =
    let viewed : view_under (strict []) debit_message ≡ Ok debit_request = c.first_debit.ensures.viewed in
    rw viewed refl

pub returns-clause-at_a_restart : goal.returns-clause-at_a_restart
unfolding view_of run_of kept_reply postings_of reply_to answer_to split_of split_from
returns-clause-at_a_restart c =
    let viewed : view_under (strict []) debit_message ≡ Ok debit_request = c.first_debit.ensures.viewed in
    rw viewed refl

pub returns-clause-on_no_connection : goal.returns-clause-on_no_connection
unfolding run_of
returns-clause-on_no_connection c = refl
