-- The requests that are answered by a result alone, step by step.
use Rattle.std.proofs.Common.{◌≡◌, List, [], ◌∷◌, Some, None, Ok, refl}
use Rattle.std.specs.Prelude.{codes}
use Rattle.std.specs.Str.{is_utf8, chars}
use lib.Utf8.{encode}
use Rattle.hex.specs.Hex.{decode_pairs}
use Rattle.dia_avp.specs.declared.avp.RawAvp.{RawAvp}
use Rattle.dia_avp.specs.AvpExample.{from_hex}
use Rattle.dia_avp.specs.AvpReading.{split_from, split_of}
use Rattle.dia_message.specs.declared.message.Message.{Message}
use Rattle.dia_message.specs.Spelling.{octets_of}
use Rattle.dia_grammar.specs.Grammar.{grammar_fault, has_row}
use Rattle.dia_grammar.specs.Profile.{strict}
use Rattle.cc_view.specs.declared.code.ResultCode.TheVariants.{UnableToComply, UnknownSessionId, UserUnknown, RatingFailed}
use Rattle.cc_view.specs.declared.reply.CcReply.{CcReply}
use Rattle.cc_view.specs.declared.request.CcRequest.{CcRequest}
use Rattle.cc_view.specs.declared.request.RequestKind.TheVariants.{Initial, Update, Event}
use Rattle.cc_view.specs.declared.request.RequestedAction.TheVariants.{DirectDebiting}
use Rattle.cc_view.specs.Answer.{answer_avps}
use Rattle.cc_view.specs.FirstDebit.{front_name, realm_name}
use Rattle.cc_view.specs.RequestView.Checking.{service_refusal, subscription_refusal, units_refusal, value_refusal}
use Rattle.cc_view.specs.RequestView.{view_under}
use Rattle.cc_view.specs.RequestView.Counting.{counted}
use Rattle.cc_book.specs.AccountMachine.{code_alone, kept_reply, postings_of, reply_to}
use Rattle.cc_book.specs.RowExample.{any_units, octets, row_service}
use Rattle.cc_book.specs.Taking.{answer_of, with_take}
use Rattle.answer_law.specs.AnswerExample.{unknown_subscriber, answer_unknown_subscriber, open_already, answer_open_already, not_open, answer_not_open, debit_without_a_tariff, answer_debit_without_a_tariff, with_the_rest, answered, book_behind, message, moment, new_book}
use Rattle.answer_law.proofs.Answering.{answer_of_avps, answered_by, behind_none, behind_one, fresh_with}
use Rattle.answer_law.proofs.Messages.{action_avp, answering, any_units_avp, asking, octets_avp, rating_avp, request_of, service_group, subscriber, subscriber_avp}
use Rattle.answer_law.proofs.Sessions.{with_the_rest-behind, with_the_rest_request}

-- ---- unknown_subscriber

unfoldable pub unknown_subscriber_message : Message
unknown_subscriber_message = asking (codes "c1;2;6") 1 0 (subscriber_avp (codes "491700000009") ∷ service_group (any_units_avp ∷ rating_avp 10 ∷ []) ∷ [])

unfoldable pub unknown_subscriber_request : CcRequest
unknown_subscriber_request = request_of (codes "c1;2;6") 0 Initial None (subscriber (codes "491700000009") ∷ []) (row_service None any_units 0 ∷ [])

unfoldable pub unknown_subscriber_reply : CcReply
unknown_subscriber_reply = code_alone UserUnknown

unfoldable pub unknown_subscriber_avps : List RawAvp
unknown_subscriber_avps = answering (codes "c1;2;6") 5030 1 0 []

pub unknown_subscriber-is : message unknown_subscriber ≡ unknown_subscriber_message
unfolding message decode_pairs unknown_subscriber unknown_subscriber_message
unknown_subscriber-is = refl

pub unknown_subscriber-viewed : view_under (strict []) unknown_subscriber_message ≡ Ok unknown_subscriber_request
unfolding unknown_subscriber_message unknown_subscriber_request view_under counted grammar_fault has_row split_of split_from value_refusal subscription_refusal units_refusal service_refusal is_utf8 chars encode
unknown_subscriber-viewed = refl

pub unknown_subscriber-replied : answer_of new_book unknown_subscriber_request ≡ Ok (fresh_with unknown_subscriber_reply 0)
unfolding unknown_subscriber_request unknown_subscriber_reply kept_reply postings_of reply_to
unknown_subscriber-replied = refl

pub unknown_subscriber-written : answer_avps front_name realm_name unknown_subscriber_message unknown_subscriber_request unknown_subscriber_reply ≡ unknown_subscriber_avps
unfolding unknown_subscriber_message unknown_subscriber_request unknown_subscriber_reply unknown_subscriber_avps split_of split_from
unknown_subscriber-written = refl

pub unknown_subscriber-spelled : octets_of (answer_of_avps unknown_subscriber_message unknown_subscriber_avps) ≡ from_hex answer_unknown_subscriber
unfolding unknown_subscriber_message unknown_subscriber_avps octets_of decode_pairs answer_unknown_subscriber
unknown_subscriber-spelled = refl

pub unknown_subscriber-behind : book_behind (unknown_subscriber ∷ []) ≡ with_take new_book moment unknown_subscriber_request
unknown_subscriber-behind = behind_one unknown_subscriber unknown_subscriber_message unknown_subscriber_request unknown_subscriber_reply 0 unknown_subscriber-is unknown_subscriber-viewed unknown_subscriber-replied

pub unknown_subscriber-answered : answered [] unknown_subscriber ≡ from_hex answer_unknown_subscriber
unknown_subscriber-answered = answered_by [] unknown_subscriber answer_unknown_subscriber new_book unknown_subscriber_message unknown_subscriber_request (fresh_with unknown_subscriber_reply 0) unknown_subscriber_avps behind_none unknown_subscriber-is unknown_subscriber-viewed unknown_subscriber-replied unknown_subscriber-written unknown_subscriber-spelled

-- ---- open_already

unfoldable pub open_already_message : Message
open_already_message = asking (codes "c1;2;2") 1 1 (subscriber_avp (codes "491700000002") ∷ service_group (any_units_avp ∷ rating_avp 10 ∷ []) ∷ [])

unfoldable pub open_already_request : CcRequest
open_already_request = request_of (codes "c1;2;2") 1 Initial None (subscriber (codes "491700000002") ∷ []) (row_service None any_units 0 ∷ [])

unfoldable pub open_already_reply : CcReply
open_already_reply = code_alone UnableToComply

unfoldable pub open_already_avps : List RawAvp
open_already_avps = answering (codes "c1;2;2") 5012 1 1 []

pub open_already-is : message open_already ≡ open_already_message
unfolding message decode_pairs open_already open_already_message
open_already-is = refl

pub open_already-viewed : view_under (strict []) open_already_message ≡ Ok open_already_request
unfolding open_already_message open_already_request view_under counted grammar_fault has_row split_of split_from value_refusal subscription_refusal units_refusal service_refusal is_utf8 chars encode
open_already-viewed = refl

pub open_already-replied : answer_of (with_take new_book moment with_the_rest_request) open_already_request ≡ Ok (fresh_with open_already_reply 1)
unfolding open_already_request open_already_reply with_the_rest_request kept_reply postings_of reply_to
open_already-replied = refl

pub open_already-written : answer_avps front_name realm_name open_already_message open_already_request open_already_reply ≡ open_already_avps
unfolding open_already_message open_already_request open_already_reply open_already_avps split_of split_from
open_already-written = refl

pub open_already-spelled : octets_of (answer_of_avps open_already_message open_already_avps) ≡ from_hex answer_open_already
unfolding open_already_message open_already_avps octets_of decode_pairs answer_open_already
open_already-spelled = refl

pub open_already-answered : answered (with_the_rest ∷ []) open_already ≡ from_hex answer_open_already
open_already-answered = answered_by (with_the_rest ∷ []) open_already answer_open_already (with_take new_book moment with_the_rest_request) open_already_message open_already_request (fresh_with open_already_reply 1) open_already_avps with_the_rest-behind open_already-is open_already-viewed open_already-replied open_already-written open_already-spelled

-- ---- not_open

unfoldable pub not_open_message : Message
not_open_message = asking (codes "c1;2;6") 2 1 (service_group (any_units_avp ∷ rating_avp 10 ∷ []) ∷ [])

unfoldable pub not_open_request : CcRequest
not_open_request = request_of (codes "c1;2;6") 1 Update None [] (row_service None any_units 0 ∷ [])

unfoldable pub not_open_reply : CcReply
not_open_reply = code_alone UnknownSessionId

unfoldable pub not_open_avps : List RawAvp
not_open_avps = answering (codes "c1;2;6") 5002 2 1 []

pub not_open-is : message not_open ≡ not_open_message
unfolding message decode_pairs not_open not_open_message
not_open-is = refl

pub not_open-viewed : view_under (strict []) not_open_message ≡ Ok not_open_request
unfolding not_open_message not_open_request view_under counted grammar_fault has_row split_of split_from value_refusal subscription_refusal units_refusal service_refusal is_utf8 chars encode
not_open-viewed = refl

pub not_open-replied : answer_of (with_take new_book moment unknown_subscriber_request) not_open_request ≡ Ok (fresh_with not_open_reply 1)
unfolding not_open_request not_open_reply unknown_subscriber_request kept_reply postings_of reply_to
not_open-replied = refl

pub not_open-written : answer_avps front_name realm_name not_open_message not_open_request not_open_reply ≡ not_open_avps
unfolding not_open_message not_open_request not_open_reply not_open_avps split_of split_from
not_open-written = refl

pub not_open-spelled : octets_of (answer_of_avps not_open_message not_open_avps) ≡ from_hex answer_not_open
unfolding not_open_message not_open_avps octets_of decode_pairs answer_not_open
not_open-spelled = refl

pub not_open-answered : answered (unknown_subscriber ∷ []) not_open ≡ from_hex answer_not_open
not_open-answered = answered_by (unknown_subscriber ∷ []) not_open answer_not_open (with_take new_book moment unknown_subscriber_request) not_open_message not_open_request (fresh_with not_open_reply 1) not_open_avps unknown_subscriber-behind not_open-is not_open-viewed not_open-replied not_open-written not_open-spelled

-- ---- debit_without_a_tariff

unfoldable pub debit_without_a_tariff_message : Message
debit_without_a_tariff_message = asking (codes "c1;2;7") 4 0 (action_avp 0 ∷ subscriber_avp (codes "491700000001") ∷ service_group (octets_avp 3200 ∷ rating_avp 11 ∷ []) ∷ [])

unfoldable pub debit_without_a_tariff_request : CcRequest
debit_without_a_tariff_request = request_of (codes "c1;2;7") 0 Event (Some DirectDebiting) (subscriber (codes "491700000001") ∷ []) (record (row_service None (octets 3200) 0) { group = Some 11 } ∷ [])

unfoldable pub debit_without_a_tariff_reply : CcReply
debit_without_a_tariff_reply = code_alone RatingFailed

unfoldable pub debit_without_a_tariff_avps : List RawAvp
debit_without_a_tariff_avps = answering (codes "c1;2;7") 5031 4 0 []

pub debit_without_a_tariff-is : message debit_without_a_tariff ≡ debit_without_a_tariff_message
unfolding message decode_pairs debit_without_a_tariff debit_without_a_tariff_message
debit_without_a_tariff-is = refl

pub debit_without_a_tariff-viewed : view_under (strict []) debit_without_a_tariff_message ≡ Ok debit_without_a_tariff_request
unfolding debit_without_a_tariff_message debit_without_a_tariff_request view_under counted grammar_fault has_row split_of split_from value_refusal subscription_refusal units_refusal service_refusal is_utf8 chars encode
debit_without_a_tariff-viewed = refl

pub debit_without_a_tariff-replied : answer_of new_book debit_without_a_tariff_request ≡ Ok (fresh_with debit_without_a_tariff_reply 0)
unfolding debit_without_a_tariff_request debit_without_a_tariff_reply kept_reply postings_of reply_to
debit_without_a_tariff-replied = refl

pub debit_without_a_tariff-written : answer_avps front_name realm_name debit_without_a_tariff_message debit_without_a_tariff_request debit_without_a_tariff_reply ≡ debit_without_a_tariff_avps
unfolding debit_without_a_tariff_message debit_without_a_tariff_request debit_without_a_tariff_reply debit_without_a_tariff_avps split_of split_from
debit_without_a_tariff-written = refl

pub debit_without_a_tariff-spelled : octets_of (answer_of_avps debit_without_a_tariff_message debit_without_a_tariff_avps) ≡ from_hex answer_debit_without_a_tariff
unfolding debit_without_a_tariff_message debit_without_a_tariff_avps octets_of decode_pairs answer_debit_without_a_tariff
debit_without_a_tariff-spelled = refl

pub debit_without_a_tariff-answered : answered [] debit_without_a_tariff ≡ from_hex answer_debit_without_a_tariff
debit_without_a_tariff-answered = answered_by [] debit_without_a_tariff answer_debit_without_a_tariff new_book debit_without_a_tariff_message debit_without_a_tariff_request (fresh_with debit_without_a_tariff_reply 0) debit_without_a_tariff_avps behind_none debit_without_a_tariff-is debit_without_a_tariff-viewed debit_without_a_tariff-replied debit_without_a_tariff-written debit_without_a_tariff-spelled
