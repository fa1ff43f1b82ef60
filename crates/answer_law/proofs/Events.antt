-- The events, step by step.
use Rattle.std.proofs.Common.{◌≡◌, List, [], ◌∷◌, false, Some, None, Ok, refl}
use Rattle.std.specs.Prelude.{codes, pos, negsuc}
use Rattle.std.specs.Str.{is_utf8, chars}
use lib.Utf8.{encode}
use Rattle.hex.specs.Hex.{decode_pairs}
use Rattle.dia_avp.specs.declared.avp.RawAvp.{RawAvp}
use Rattle.dia_avp.specs.AvpExample.{from_hex, group}
use Rattle.dia_avp.specs.AvpReading.{split_from, split_of}
use Rattle.dia_message.specs.declared.message.Message.{Message}
use Rattle.dia_message.specs.Spelling.{octets_of}
use Rattle.dia_grammar.specs.Grammar.{grammar_fault, has_row}
use Rattle.dia_grammar.specs.Profile.{strict}
use Rattle.cc_view.specs.declared.code.ResultCode.TheVariants.{Success}
use Rattle.cc_view.specs.declared.reply.CcReply.{CcReply}
use Rattle.cc_view.specs.declared.request.CcRequest.{CcRequest}
use Rattle.cc_view.specs.declared.request.RequestKind.TheVariants.{Event}
use Rattle.cc_view.specs.declared.request.RequestedAction.TheVariants.{DirectDebiting, RefundAccount, CheckBalance, PriceEnquiry}
use Rattle.cc_view.specs.Answer.{answer_avps}
use Rattle.cc_view.specs.Answer.Writing.{i32_avp, i64_avp, u32_avp}
use Rattle.cc_view.specs.FirstDebit.{front_name, realm_name}
use Rattle.cc_view.specs.RequestView.Checking.{service_refusal, subscription_refusal, units_refusal, value_refusal}
use Rattle.cc_view.specs.RequestView.{view_under}
use Rattle.cc_view.specs.RequestView.Counting.{counted}
use Rattle.cc_book.specs.AccountMachine.{code_alone, kept_reply, postings_of, reply_to}
use Rattle.cc_book.specs.RowExample.{octets, row_reply, row_service, success}
use Rattle.cc_book.specs.Taking.{answer_of, with_take}
use Rattle.answer_law.specs.AnswerExample.{debit, answer_debit, refund, answer_refund, price, answer_price, balance, answer_balance, answered, book_behind, message, moment, new_book}
use Rattle.answer_law.proofs.Answering.{answer_of_avps, answered_by, behind_none, behind_one, fresh_with}
use Rattle.answer_law.proofs.Messages.{action_avp, answering, asking, granted_avp, octets_avp, rating_avp, request_of, result_avp, service_group, subscriber, subscriber_avp}

-- Cost-Information: 20 times ten to the -2 in currency 978
abbrev price_avp : RawAvp
price_avp = group 423 (group 445 (i64_avp 447 (pos 20) ∷ i32_avp 429 (negsuc 1) ∷ []) ∷ u32_avp 425 978 ∷ [])

-- ---- debit

unfoldable pub debit_message : Message
debit_message = asking (codes "c1;2;7") 4 0 (action_avp 0 ∷ subscriber_avp (codes "491700000001") ∷ service_group (octets_avp 3200 ∷ rating_avp 10 ∷ []) ∷ [])

unfoldable pub debit_request : CcRequest
debit_request = request_of (codes "c1;2;7") 0 Event (Some DirectDebiting) (subscriber (codes "491700000001") ∷ []) (row_service None (octets 3200) 0 ∷ [])

unfoldable pub debit_reply : CcReply
debit_reply = success (row_reply None Success (Some 3200) None false ∷ [])

unfoldable pub debit_avps : List RawAvp
debit_avps = answering (codes "c1;2;7") 2001 4 0 (service_group (granted_avp 3200 ∷ rating_avp 10 ∷ result_avp 2001 ∷ []) ∷ [])

pub debit-is : message debit ≡ debit_message
unfolding message decode_pairs debit debit_message
debit-is = refl

pub debit-viewed : view_under (strict []) debit_message ≡ Ok debit_request
unfolding debit_message debit_request view_under counted grammar_fault has_row split_of split_from value_refusal subscription_refusal units_refusal service_refusal is_utf8 chars encode
debit-viewed = refl

pub debit-replied : answer_of new_book debit_request ≡ Ok (fresh_with debit_reply 0)
unfolding debit_request debit_reply kept_reply postings_of reply_to
debit-replied = refl

pub debit-written : answer_avps front_name realm_name debit_message debit_request debit_reply ≡ debit_avps
unfolding debit_message debit_request debit_reply debit_avps split_of split_from
debit-written = refl

pub debit-spelled : octets_of (answer_of_avps debit_message debit_avps) ≡ from_hex answer_debit
unfolding debit_message debit_avps octets_of decode_pairs answer_debit
debit-spelled = refl

pub debit-behind : book_behind (debit ∷ []) ≡ with_take new_book moment debit_request
debit-behind = behind_one debit debit_message debit_request debit_reply 0 debit-is debit-viewed debit-replied

pub debit-answered : answered [] debit ≡ from_hex answer_debit
debit-answered = answered_by [] debit answer_debit new_book debit_message debit_request (fresh_with debit_reply 0) debit_avps behind_none debit-is debit-viewed debit-replied debit-written debit-spelled

-- ---- refund

unfoldable pub refund_message : Message
refund_message = asking (codes "c1;2;7") 4 1 (action_avp 1 ∷ subscriber_avp (codes "491700000001") ∷ service_group (octets_avp 3200 ∷ rating_avp 10 ∷ []) ∷ [])

unfoldable pub refund_request : CcRequest
refund_request = request_of (codes "c1;2;7") 1 Event (Some RefundAccount) (subscriber (codes "491700000001") ∷ []) (row_service None (octets 3200) 0 ∷ [])

unfoldable pub refund_reply : CcReply
refund_reply = code_alone Success

unfoldable pub refund_avps : List RawAvp
refund_avps = answering (codes "c1;2;7") 2001 4 1 []

pub refund-is : message refund ≡ refund_message
unfolding message decode_pairs refund refund_message
refund-is = refl

pub refund-viewed : view_under (strict []) refund_message ≡ Ok refund_request
unfolding refund_message refund_request view_under counted grammar_fault has_row split_of split_from value_refusal subscription_refusal units_refusal service_refusal is_utf8 chars encode
refund-viewed = refl

pub refund-replied : answer_of new_book refund_request ≡ Ok (fresh_with refund_reply 0)
unfolding refund_request refund_reply kept_reply postings_of reply_to
refund-replied = refl

pub refund-written : answer_avps front_name realm_name refund_message refund_request refund_reply ≡ refund_avps
unfolding refund_message refund_request refund_reply refund_avps split_of split_from
refund-written = refl

pub refund-spelled : octets_of (answer_of_avps refund_message refund_avps) ≡ from_hex answer_refund
unfolding refund_message refund_avps octets_of decode_pairs answer_refund
refund-spelled = refl

pub refund-answered : answered [] refund ≡ from_hex answer_refund
refund-answered = answered_by [] refund answer_refund new_book refund_message refund_request (fresh_with refund_reply 0) refund_avps behind_none refund-is refund-viewed refund-replied refund-written refund-spelled

-- ---- price

unfoldable pub price_message : Message
price_message = asking (codes "c1;2;7") 4 2 (action_avp 3 ∷ subscriber_avp (codes "491700000001") ∷ service_group (octets_avp 3200 ∷ rating_avp 10 ∷ []) ∷ [])

unfoldable pub price_request : CcRequest
price_request = request_of (codes "c1;2;7") 2 Event (Some PriceEnquiry) (subscriber (codes "491700000001") ∷ []) (row_service None (octets 3200) 0 ∷ [])

unfoldable pub price_reply : CcReply
price_reply = record { code = Success; services = []; cost = Some (record { digits = pos 20; exponent = negsuc 1; currency = 978 }); check = None }

unfoldable pub price_avps : List RawAvp
price_avps = answering (codes "c1;2;7") 2001 4 2 (price_avp ∷ [])

pub price-is : message price ≡ price_message
unfolding message decode_pairs price price_message
price-is = refl

pub price-viewed : view_under (strict []) price_message ≡ Ok price_request
unfolding price_message price_request view_under counted grammar_fault has_row split_of split_from value_refusal subscription_refusal units_refusal service_refusal is_utf8 chars encode
price-viewed = refl

pub price-replied : answer_of new_book price_request ≡ Ok (fresh_with price_reply 0)
unfolding price_request price_reply kept_reply postings_of reply_to
price-replied = refl

pub price-written : answer_avps front_name realm_name price_message price_request price_reply ≡ price_avps
unfolding price_message price_request price_reply price_avps split_of split_from
price-written = refl

pub price-spelled : octets_of (answer_of_avps price_message price_avps) ≡ from_hex answer_price
unfolding price_message price_avps octets_of decode_pairs answer_price
price-spelled = refl

pub price-answered : answered [] price ≡ from_hex answer_price
price-answered = answered_by [] price answer_price new_book price_message price_request (fresh_with price_reply 0) price_avps behind_none price-is price-viewed price-replied price-written price-spelled

-- ---- balance

unfoldable pub balance_message : Message
balance_message = asking (codes "c1;2;7") 4 3 (action_avp 2 ∷ subscriber_avp (codes "491700000003") ∷ service_group (octets_avp 3200 ∷ rating_avp 10 ∷ []) ∷ [])

unfoldable pub balance_request : CcRequest
balance_request = request_of (codes "c1;2;7") 3 Event (Some CheckBalance) (subscriber (codes "491700000003") ∷ []) (row_service None (octets 3200) 0 ∷ [])

unfoldable pub balance_reply : CcReply
balance_reply = record { code = Success; services = []; cost = None; check = Some 1 }

unfoldable pub balance_avps : List RawAvp
balance_avps = answering (codes "c1;2;7") 2001 4 3 (u32_avp 422 1 ∷ [])

pub balance-is : message balance ≡ balance_message
unfolding message decode_pairs balance balance_message
balance-is = refl

pub balance-viewed : view_under (strict []) balance_message ≡ Ok balance_request
unfolding balance_message balance_request view_under counted grammar_fault has_row split_of split_from value_refusal subscription_refusal units_refusal service_refusal is_utf8 chars encode
balance-viewed = refl

pub balance-replied : answer_of new_book balance_request ≡ Ok (fresh_with balance_reply 0)
unfolding balance_request balance_reply kept_reply postings_of reply_to
balance-replied = refl

pub balance-written : answer_avps front_name realm_name balance_message balance_request balance_reply ≡ balance_avps
unfolding balance_message balance_request balance_reply balance_avps split_of split_from
balance-written = refl

pub balance-spelled : octets_of (answer_of_avps balance_message balance_avps) ≡ from_hex answer_balance
unfolding balance_message balance_avps octets_of decode_pairs answer_balance
balance-spelled = refl

pub balance-answered : answered [] balance ≡ from_hex answer_balance
balance-answered = answered_by [] balance answer_balance new_book balance_message balance_request (fresh_with balance_reply 0) balance_avps behind_none balance-is balance-viewed balance-replied balance-written balance-spelled
