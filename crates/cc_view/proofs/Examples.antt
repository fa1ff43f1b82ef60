-- The worked example computes.
use Rattle.std.proofs.Common.{◌≡◌, [], Ok, refl}
use Rattle.std.specs.Str.{is_utf8, chars}
use lib.Utf8.{encode}
use Rattle.dia_avp.specs.AvpReading.{split_from, split_of}
use Rattle.dia_grammar.specs.Grammar.{grammar_fault, has_row}
use Rattle.cc_view.specs.Answer.{answer_to}
use Rattle.cc_view.specs.RequestView.Checking.{service_refusal, subscription_refusal, units_refusal, value_refusal}
use Rattle.cc_view.specs.FirstDebit.{debit_message, answer_message, debit_request, debit_reply, front_name, realm_name}
use Rattle.cc_view.specs.RequestView.{view_of, view_under}
use Rattle.cc_view.specs.RequestView.Counting.{counted}

pub debit_viewed : view_of [] debit_message ≡ Ok debit_request
unfolding view_of view_under counted grammar_fault has_row split_of split_from value_refusal subscription_refusal units_refusal service_refusal is_utf8 chars encode
debit_viewed = refl

pub debit_answered : answer_to front_name realm_name debit_message debit_request debit_reply ≡ answer_message
unfolding answer_to split_of split_from
debit_answered = refl
