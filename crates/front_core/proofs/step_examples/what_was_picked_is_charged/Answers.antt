use Rattle.std.proofs.Common.{◌≡◌, [], Ok, refl}
use Rattle.dia_avp.specs.AvpReading.{split_from, split_of}
use Rattle.dia_grammar.specs.Profile.{strict}
use Rattle.cc_view.specs.Answer.{answer_to, refusal_of}
use Rattle.cc_view.specs.FirstDebit.{debit_message, debit_request}
use Rattle.cc_view.specs.RequestView.{view_of, view_under}
use Rattle.cc_book.specs.AccountMachine.{kept_reply, postings_of, reply_to}
use Rattle.front_core.proofs.step_examples.what_was_picked_is_charged.Goals as goal

pub returns-clause-picked : goal.returns-clause-picked
unfolding view_of kept_reply postings_of reply_to answer_to split_of split_from
returns-clause-picked c =
    let viewed : view_under (strict []) debit_message ≡ Ok debit_request = c.first_debit.ensures.viewed in
    rw viewed refl

pub returns-clause-no_room : goal.returns-clause-no_room
unfolding view_of kept_reply postings_of reply_to split_of split_from refusal_of
returns-clause-no_room c =
    let viewed : view_under (strict []) debit_message ≡ Ok debit_request = c.first_debit.ensures.viewed in
    rw viewed refl
