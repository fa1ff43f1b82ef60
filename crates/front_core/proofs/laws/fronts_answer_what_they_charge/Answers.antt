use Rattle.std.proofs.Common.{◌≡◌, [], Ok, refl}
use Rattle.dia_avp.specs.AvpReading.{split_from, split_of}
use Rattle.dia_grammar.specs.Profile.{strict}
use Rattle.cc_view.specs.Answer.{answer_to, refusal_of}
use Rattle.cc_view.specs.FirstDebit.{debit_message, debit_request}
use Rattle.cc_view.specs.RequestView.{view_of, view_under}
use Rattle.cc_book.specs.AccountMachine.{kept_reply, postings_of, reply_to}
use Rattle.cc_book.specs.Balance.{open_sessions_of}
use Rattle.front_core.specs.FrontRun.{run_of}
use Rattle.front_core.proofs.laws.fronts_answer_what_they_charge.Goals as goal

pub returns-clause-charged : goal.returns-clause-charged
unfolding view_of run_of kept_reply postings_of open_sessions_of reply_to answer_to split_of split_from
returns-clause-charged c =
    let viewed : view_under (strict []) debit_message ≡ Ok debit_request = c.first_debit.ensures.viewed in
    rw viewed refl

pub returns-clause-changed : goal.returns-clause-changed
unfolding view_of run_of kept_reply postings_of reply_to answer_to split_of split_from
returns-clause-changed c =
    let viewed : view_under (strict []) debit_message ≡ Ok debit_request = c.first_debit.ensures.viewed in
    rw viewed refl

pub returns-clause-full : goal.returns-clause-full
unfolding run_of split_of split_from refusal_of
returns-clause-full c = refl

pub returns-clause-ordered : goal.returns-clause-ordered
unfolding run_of split_of split_from refusal_of
returns-clause-ordered c = refl

pub returns-clause-too_early_or_late : goal.returns-clause-too_early_or_late
unfolding view_of run_of kept_reply postings_of reply_to answer_to split_of split_from
returns-clause-too_early_or_late c =
    let viewed : view_under (strict []) debit_message ≡ Ok debit_request = c.first_debit.ensures.viewed in
    rw viewed refl

pub returns-clause-up_again : goal.returns-clause-up_again
unfolding view_of run_of kept_reply postings_of reply_to answer_to split_of split_from
returns-clause-up_again c =
    let viewed : view_under (strict []) debit_message ≡ Ok debit_request = c.first_debit.ensures.viewed in
    rw viewed refl
