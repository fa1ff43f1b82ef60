-- The sessions, step by step.
use Rattle.std.proofs.Common.{◌≡◌, List, [], ◌∷◌, true, false, Some, None, Ok, refl}
use Rattle.std.specs.Prelude.{codes}
use Rattle.std.specs.Str.{is_utf8, chars}
use lib.Utf8.{encode}
use Rattle.hex.specs.Hex.{decode_pairs}
use Rattle.dia_avp.specs.declared.avp.RawAvp.{RawAvp}
use Rattle.dia_avp.specs.AvpExample.{from_hex}
use Rattle.dia_avp.specs.AvpReading.{split_from, split_of}
use Rattle.dia_message.specs.declared.message.Message.{Message}
use Rattle.dia_message.specs.Spelling.{octets_of}
use Rattle.dia_grammar.specs.Grammar.{grammar_fault, has_row}
use Rattle.dia_grammar.specs.Profile.{strict}
use Rattle.cc_view.specs.declared.code.ResultCode.TheVariants.{Success, CreditLimitReached}
use Rattle.cc_view.specs.declared.reply.CcReply.{CcReply}
use Rattle.cc_view.specs.declared.request.CcRequest.{CcRequest}
use Rattle.cc_view.specs.declared.request.RequestKind.TheVariants.{Initial, Update, Termination}
use Rattle.cc_view.specs.Answer.{answer_avps}
use Rattle.cc_view.specs.FirstDebit.{front_name, realm_name}
use Rattle.cc_view.specs.RequestView.Checking.{service_refusal, subscription_refusal, units_refusal, value_refusal}
use Rattle.cc_view.specs.RequestView.{view_under}
use Rattle.cc_view.specs.RequestView.Counting.{counted}
use Rattle.cc_book.specs.AccountMachine.{kept_reply, postings_of, reply_to}
use Rattle.cc_book.specs.RowExample.{any_units, granted_units, no_units, row_service, success, unrated_reply}
use Rattle.cc_book.specs.Taking.{answer_of, with_take}
use Rattle.answer_law.specs.AnswerExample.{with_credit, answer_with_credit, with_the_rest, answer_with_the_rest, with_none, answer_with_none, two_services, answer_two_services, last_units, answer_last_units, one_without_a_tariff, answer_one_without_a_tariff, exhausted, answer_exhausted, end_of_session, answer_end_of_session, answered, book_behind, message, moment, new_book}
use Rattle.answer_law.proofs.Answering.{answer_of_avps, answered_by, behind_none, behind_one, fresh_with}
use Rattle.answer_law.proofs.Messages.{answering, any_units_avp, asking, failover_avp, final_avp, granted_avp, identifier_avp, rating_avp, request_of, result_avp, service_group, subscriber, subscriber_avp, used_avp, validity_avp}

-- ---- with_credit

unfoldable pub with_credit_message : Message
with_credit_message = asking (codes "c1;2;1") 1 0 (subscriber_avp (codes "491700000001") ∷ service_group (any_units_avp ∷ rating_avp 10 ∷ []) ∷ [])

unfoldable pub with_credit_request : CcRequest
with_credit_request = request_of (codes "c1;2;1") 0 Initial None (subscriber (codes "491700000001") ∷ []) (row_service None any_units 0 ∷ [])

unfoldable pub with_credit_reply : CcReply
with_credit_reply = success (granted_units None 5000 false ∷ [])

unfoldable pub with_credit_avps : List RawAvp
with_credit_avps = answering (codes "c1;2;1") 2001 1 0 (failover_avp ∷ service_group (granted_avp 5000 ∷ rating_avp 10 ∷ validity_avp ∷ result_avp 2001 ∷ []) ∷ [])

pub with_credit-is : message with_credit ≡ with_credit_message
unfolding message decode_pairs with_credit with_credit_message
with_credit-is = refl

pub with_credit-viewed : view_under (strict []) with_credit_message ≡ Ok with_credit_request
unfolding with_credit_message with_credit_request view_under counted grammar_fault has_row split_of split_from value_refusal subscription_refusal units_refusal service_refusal is_utf8 chars encode
with_credit-viewed = refl

pub with_credit-replied : answer_of new_book with_credit_request ≡ Ok (fresh_with with_credit_reply 0)
unfolding with_credit_request with_credit_reply kept_reply postings_of reply_to
with_credit-replied = refl

pub with_credit-written : answer_avps front_name realm_name with_credit_message with_credit_request with_credit_reply ≡ with_credit_avps
unfolding with_credit_message with_credit_request with_credit_reply with_credit_avps split_of split_from
with_credit-written = refl

pub with_credit-spelled : octets_of (answer_of_avps with_credit_message with_credit_avps) ≡ from_hex answer_with_credit
unfolding with_credit_message with_credit_avps octets_of decode_pairs answer_with_credit
with_credit-spelled = refl

pub with_credit-behind : book_behind (with_credit ∷ []) ≡ with_take new_book moment with_credit_request
with_credit-behind = behind_one with_credit with_credit_message with_credit_request with_credit_reply 0 with_credit-is with_credit-viewed with_credit-replied

pub with_credit-answered : answered [] with_credit ≡ from_hex answer_with_credit
with_credit-answered = answered_by [] with_credit answer_with_credit new_book with_credit_message with_credit_request (fresh_with with_credit_reply 0) with_credit_avps behind_none with_credit-is with_credit-viewed with_credit-replied with_credit-written with_credit-spelled

-- ---- with_the_rest

unfoldable pub with_the_rest_message : Message
with_the_rest_message = asking (codes "c1;2;2") 1 0 (subscriber_avp (codes "491700000002") ∷ service_group (any_units_avp ∷ rating_avp 10 ∷ []) ∷ [])

unfoldable pub with_the_rest_request : CcRequest
with_the_rest_request = request_of (codes "c1;2;2") 0 Initial None (subscriber (codes "491700000002") ∷ []) (row_service None any_units 0 ∷ [])

unfoldable pub with_the_rest_reply : CcReply
with_the_rest_reply = success (granted_units None 2000 true ∷ [])

unfoldable pub with_the_rest_avps : List RawAvp
with_the_rest_avps = answering (codes "c1;2;2") 2001 1 0 (failover_avp ∷ service_group (granted_avp 2000 ∷ rating_avp 10 ∷ validity_avp ∷ result_avp 2001 ∷ final_avp ∷ []) ∷ [])

pub with_the_rest-is : message with_the_rest ≡ with_the_rest_message
unfolding message decode_pairs with_the_rest with_the_rest_message
with_the_rest-is = refl

pub with_the_rest-viewed : view_under (strict []) with_the_rest_message ≡ Ok with_the_rest_request
unfolding with_the_rest_message with_the_rest_request view_under counted grammar_fault has_row split_of split_from value_refusal subscription_refusal units_refusal service_refusal is_utf8 chars encode
with_the_rest-viewed = refl

pub with_the_rest-replied : answer_of new_book with_the_rest_request ≡ Ok (fresh_with with_the_rest_reply 0)
unfolding with_the_rest_request with_the_rest_reply kept_reply postings_of reply_to
with_the_rest-replied = refl

pub with_the_rest-written : answer_avps front_name realm_name with_the_rest_message with_the_rest_request with_the_rest_reply ≡ with_the_rest_avps
unfolding with_the_rest_message with_the_rest_request with_the_rest_reply with_the_rest_avps split_of split_from
with_the_rest-written = refl

pub with_the_rest-spelled : octets_of (answer_of_avps with_the_rest_message with_the_rest_avps) ≡ from_hex answer_with_the_rest
unfolding with_the_rest_message with_the_rest_avps octets_of decode_pairs answer_with_the_rest
with_the_rest-spelled = refl

pub with_the_rest-behind : book_behind (with_the_rest ∷ []) ≡ with_take new_book moment with_the_rest_request
with_the_rest-behind = behind_one with_the_rest with_the_rest_message with_the_rest_request with_the_rest_reply 0 with_the_rest-is with_the_rest-viewed with_the_rest-replied

pub with_the_rest-answered : answered [] with_the_rest ≡ from_hex answer_with_the_rest
with_the_rest-answered = answered_by [] with_the_rest answer_with_the_rest new_book with_the_rest_message with_the_rest_request (fresh_with with_the_rest_reply 0) with_the_rest_avps behind_none with_the_rest-is with_the_rest-viewed with_the_rest-replied with_the_rest-written with_the_rest-spelled

-- ---- with_none

unfoldable pub with_none_message : Message
with_none_message = asking (codes "c1;2;3") 1 0 (subscriber_avp (codes "491700000003") ∷ service_group (any_units_avp ∷ rating_avp 10 ∷ []) ∷ [])

unfoldable pub with_none_request : CcRequest
with_none_request = request_of (codes "c1;2;3") 0 Initial None (subscriber (codes "491700000003") ∷ []) (row_service None any_units 0 ∷ [])

unfoldable pub with_none_reply : CcReply
with_none_reply = success (no_units None CreditLimitReached ∷ [])

unfoldable pub with_none_avps : List RawAvp
with_none_avps = answering (codes "c1;2;3") 2001 1 0 (failover_avp ∷ service_group (rating_avp 10 ∷ result_avp 4012 ∷ []) ∷ [])

pub with_none-is : message with_none ≡ with_none_message
unfolding message decode_pairs with_none with_none_message
with_none-is = refl

pub with_none-viewed : view_under (strict []) with_none_message ≡ Ok with_none_request
unfolding with_none_message with_none_request view_under counted grammar_fault has_row split_of split_from value_refusal subscription_refusal units_refusal service_refusal is_utf8 chars encode
with_none-viewed = refl

pub with_none-replied : answer_of new_book with_none_request ≡ Ok (fresh_with with_none_reply 0)
unfolding with_none_request with_none_reply kept_reply postings_of reply_to
with_none-replied = refl

pub with_none-written : answer_avps front_name realm_name with_none_message with_none_request with_none_reply ≡ with_none_avps
unfolding with_none_message with_none_request with_none_reply with_none_avps split_of split_from
with_none-written = refl

pub with_none-spelled : octets_of (answer_of_avps with_none_message with_none_avps) ≡ from_hex answer_with_none
unfolding with_none_message with_none_avps octets_of decode_pairs answer_with_none
with_none-spelled = refl

pub with_none-answered : answered [] with_none ≡ from_hex answer_with_none
with_none-answered = answered_by [] with_none answer_with_none new_book with_none_message with_none_request (fresh_with with_none_reply 0) with_none_avps behind_none with_none-is with_none-viewed with_none-replied with_none-written with_none-spelled

-- ---- two_services

unfoldable pub two_services_message : Message
two_services_message = asking (codes "c1;2;4") 1 0 (subscriber_avp (codes "491700000004") ∷ service_group (any_units_avp ∷ rating_avp 10 ∷ []) ∷ service_group (any_units_avp ∷ identifier_avp 1 ∷ rating_avp 10 ∷ []) ∷ [])

unfoldable pub two_services_request : CcRequest
two_services_request = request_of (codes "c1;2;4") 0 Initial None (subscriber (codes "491700000004") ∷ []) (row_service None any_units 0 ∷ row_service (Some 1) any_units 0 ∷ [])

unfoldable pub two_services_reply : CcReply
two_services_reply = success (granted_units None 5000 false ∷ no_units (Some 1) CreditLimitReached ∷ [])

unfoldable pub two_services_avps : List RawAvp
two_services_avps = answering (codes "c1;2;4") 2001 1 0 (failover_avp ∷ service_group (granted_avp 5000 ∷ rating_avp 10 ∷ validity_avp ∷ result_avp 2001 ∷ []) ∷ service_group (identifier_avp 1 ∷ rating_avp 10 ∷ result_avp 4012 ∷ []) ∷ [])

pub two_services-is : message two_services ≡ two_services_message
unfolding message decode_pairs two_services two_services_message
two_services-is = refl

pub two_services-viewed : view_under (strict []) two_services_message ≡ Ok two_services_request
unfolding two_services_message two_services_request view_under counted grammar_fault has_row split_of split_from value_refusal subscription_refusal units_refusal service_refusal is_utf8 chars encode
two_services-viewed = refl

pub two_services-replied : answer_of new_book two_services_request ≡ Ok (fresh_with two_services_reply 0)
unfolding two_services_request two_services_reply kept_reply postings_of reply_to
two_services-replied = refl

pub two_services-written : answer_avps front_name realm_name two_services_message two_services_request two_services_reply ≡ two_services_avps
unfolding two_services_message two_services_request two_services_reply two_services_avps split_of split_from
two_services-written = refl

pub two_services-spelled : octets_of (answer_of_avps two_services_message two_services_avps) ≡ from_hex answer_two_services
unfolding two_services_message two_services_avps octets_of decode_pairs answer_two_services
two_services-spelled = refl

pub two_services-behind : book_behind (two_services ∷ []) ≡ with_take new_book moment two_services_request
two_services-behind = behind_one two_services two_services_message two_services_request two_services_reply 0 two_services-is two_services-viewed two_services-replied

pub two_services-answered : answered [] two_services ≡ from_hex answer_two_services
two_services-answered = answered_by [] two_services answer_two_services new_book two_services_message two_services_request (fresh_with two_services_reply 0) two_services_avps behind_none two_services-is two_services-viewed two_services-replied two_services-written two_services-spelled

-- ---- last_units

unfoldable pub last_units_message : Message
last_units_message = asking (codes "c1;2;4") 2 1 (service_group (any_units_avp ∷ rating_avp 10 ∷ []) ∷ service_group (used_avp 1000 ∷ identifier_avp 1 ∷ rating_avp 10 ∷ []) ∷ [])

unfoldable pub last_units_request : CcRequest
last_units_request = request_of (codes "c1;2;4") 1 Update None [] (row_service None any_units 0 ∷ row_service (Some 1) None 1000 ∷ [])

unfoldable pub last_units_reply : CcReply
last_units_reply = success (granted_units None 4000 true ∷ no_units (Some 1) Success ∷ [])

unfoldable pub last_units_avps : List RawAvp
last_units_avps = answering (codes "c1;2;4") 2001 2 1 (service_group (granted_avp 4000 ∷ rating_avp 10 ∷ validity_avp ∷ result_avp 2001 ∷ final_avp ∷ []) ∷ service_group (identifier_avp 1 ∷ rating_avp 10 ∷ result_avp 2001 ∷ []) ∷ [])

pub last_units-is : message last_units ≡ last_units_message
unfolding message decode_pairs last_units last_units_message
last_units-is = refl

pub last_units-viewed : view_under (strict []) last_units_message ≡ Ok last_units_request
unfolding last_units_message last_units_request view_under counted grammar_fault has_row split_of split_from value_refusal subscription_refusal units_refusal service_refusal is_utf8 chars encode
last_units-viewed = refl

pub last_units-replied : answer_of (with_take new_book moment two_services_request) last_units_request ≡ Ok (fresh_with last_units_reply 1)
unfolding last_units_request last_units_reply two_services_request kept_reply postings_of reply_to
last_units-replied = refl

pub last_units-written : answer_avps front_name realm_name last_units_message last_units_request last_units_reply ≡ last_units_avps
unfolding last_units_message last_units_request last_units_reply last_units_avps split_of split_from
last_units-written = refl

pub last_units-spelled : octets_of (answer_of_avps last_units_message last_units_avps) ≡ from_hex answer_last_units
unfolding last_units_message last_units_avps octets_of decode_pairs answer_last_units
last_units-spelled = refl

pub last_units-answered : answered (two_services ∷ []) last_units ≡ from_hex answer_last_units
last_units-answered = answered_by (two_services ∷ []) last_units answer_last_units (with_take new_book moment two_services_request) last_units_message last_units_request (fresh_with last_units_reply 1) last_units_avps two_services-behind last_units-is last_units-viewed last_units-replied last_units-written last_units-spelled

-- ---- one_without_a_tariff

unfoldable pub one_without_a_tariff_message : Message
one_without_a_tariff_message = asking (codes "c1;2;5") 1 0 (subscriber_avp (codes "491700000005") ∷ service_group (any_units_avp ∷ rating_avp 10 ∷ []) ∷ service_group (any_units_avp ∷ rating_avp 11 ∷ []) ∷ [])

unfoldable pub one_without_a_tariff_request : CcRequest
one_without_a_tariff_request = request_of (codes "c1;2;5") 0 Initial None (subscriber (codes "491700000005") ∷ []) (row_service None any_units 0 ∷ record (row_service None any_units 0) { group = Some 11 } ∷ [])

unfoldable pub one_without_a_tariff_reply : CcReply
one_without_a_tariff_reply = success (granted_units None 5000 false ∷ unrated_reply ∷ [])

unfoldable pub one_without_a_tariff_avps : List RawAvp
one_without_a_tariff_avps = answering (codes "c1;2;5") 2001 1 0 (failover_avp ∷ service_group (granted_avp 5000 ∷ rating_avp 10 ∷ validity_avp ∷ result_avp 2001 ∷ []) ∷ service_group (rating_avp 11 ∷ result_avp 5031 ∷ []) ∷ [])

pub one_without_a_tariff-is : message one_without_a_tariff ≡ one_without_a_tariff_message
unfolding message decode_pairs one_without_a_tariff one_without_a_tariff_message
one_without_a_tariff-is = refl

pub one_without_a_tariff-viewed : view_under (strict []) one_without_a_tariff_message ≡ Ok one_without_a_tariff_request
unfolding one_without_a_tariff_message one_without_a_tariff_request view_under counted grammar_fault has_row split_of split_from value_refusal subscription_refusal units_refusal service_refusal is_utf8 chars encode
one_without_a_tariff-viewed = refl

pub one_without_a_tariff-replied : answer_of new_book one_without_a_tariff_request ≡ Ok (fresh_with one_without_a_tariff_reply 0)
unfolding one_without_a_tariff_request one_without_a_tariff_reply kept_reply postings_of reply_to
one_without_a_tariff-replied = refl

pub one_without_a_tariff-written : answer_avps front_name realm_name one_without_a_tariff_message one_without_a_tariff_request one_without_a_tariff_reply ≡ one_without_a_tariff_avps
unfolding one_without_a_tariff_message one_without_a_tariff_request one_without_a_tariff_reply one_without_a_tariff_avps split_of split_from
one_without_a_tariff-written = refl

pub one_without_a_tariff-spelled : octets_of (answer_of_avps one_without_a_tariff_message one_without_a_tariff_avps) ≡ from_hex answer_one_without_a_tariff
unfolding one_without_a_tariff_message one_without_a_tariff_avps octets_of decode_pairs answer_one_without_a_tariff
one_without_a_tariff-spelled = refl

pub one_without_a_tariff-behind : book_behind (one_without_a_tariff ∷ []) ≡ with_take new_book moment one_without_a_tariff_request
one_without_a_tariff-behind = behind_one one_without_a_tariff one_without_a_tariff_message one_without_a_tariff_request one_without_a_tariff_reply 0 one_without_a_tariff-is one_without_a_tariff-viewed one_without_a_tariff-replied

pub one_without_a_tariff-answered : answered [] one_without_a_tariff ≡ from_hex answer_one_without_a_tariff
one_without_a_tariff-answered = answered_by [] one_without_a_tariff answer_one_without_a_tariff new_book one_without_a_tariff_message one_without_a_tariff_request (fresh_with one_without_a_tariff_reply 0) one_without_a_tariff_avps behind_none one_without_a_tariff-is one_without_a_tariff-viewed one_without_a_tariff-replied one_without_a_tariff-written one_without_a_tariff-spelled

-- ---- exhausted

unfoldable pub exhausted_message : Message
exhausted_message = asking (codes "c1;2;5") 2 1 (service_group (any_units_avp ∷ used_avp 5000 ∷ rating_avp 10 ∷ []) ∷ [])

unfoldable pub exhausted_request : CcRequest
exhausted_request = request_of (codes "c1;2;5") 1 Update None [] (row_service None any_units 5000 ∷ [])

unfoldable pub exhausted_reply : CcReply
exhausted_reply = success (no_units None CreditLimitReached ∷ [])

unfoldable pub exhausted_avps : List RawAvp
exhausted_avps = answering (codes "c1;2;5") 2001 2 1 (service_group (rating_avp 10 ∷ result_avp 4012 ∷ []) ∷ [])

pub exhausted-is : message exhausted ≡ exhausted_message
unfolding message decode_pairs exhausted exhausted_message
exhausted-is = refl

pub exhausted-viewed : view_under (strict []) exhausted_message ≡ Ok exhausted_request
unfolding exhausted_message exhausted_request view_under counted grammar_fault has_row split_of split_from value_refusal subscription_refusal units_refusal service_refusal is_utf8 chars encode
exhausted-viewed = refl

pub exhausted-replied : answer_of (with_take new_book moment one_without_a_tariff_request) exhausted_request ≡ Ok (fresh_with exhausted_reply 1)
unfolding exhausted_request exhausted_reply one_without_a_tariff_request kept_reply postings_of reply_to
exhausted-replied = refl

pub exhausted-written : answer_avps front_name realm_name exhausted_message exhausted_request exhausted_reply ≡ exhausted_avps
unfolding exhausted_message exhausted_request exhausted_reply exhausted_avps split_of split_from
exhausted-written = refl

pub exhausted-spelled : octets_of (answer_of_avps exhausted_message exhausted_avps) ≡ from_hex answer_exhausted
unfolding exhausted_message exhausted_avps octets_of decode_pairs answer_exhausted
exhausted-spelled = refl

pub exhausted-answered : answered (one_without_a_tariff ∷ []) exhausted ≡ from_hex answer_exhausted
exhausted-answered = answered_by (one_without_a_tariff ∷ []) exhausted answer_exhausted (with_take new_book moment one_without_a_tariff_request) exhausted_message exhausted_request (fresh_with exhausted_reply 1) exhausted_avps one_without_a_tariff-behind exhausted-is exhausted-viewed exhausted-replied exhausted-written exhausted-spelled

-- ---- end_of_session

unfoldable pub end_of_session_message : Message
end_of_session_message = asking (codes "c1;2;1") 3 2 (service_group (used_avp 3000 ∷ rating_avp 10 ∷ []) ∷ [])

unfoldable pub end_of_session_request : CcRequest
end_of_session_request = request_of (codes "c1;2;1") 2 Termination None [] (row_service None None 3000 ∷ [])

unfoldable pub end_of_session_reply : CcReply
end_of_session_reply = success (no_units None Success ∷ [])

unfoldable pub end_of_session_avps : List RawAvp
end_of_session_avps = answering (codes "c1;2;1") 2001 3 2 (service_group (rating_avp 10 ∷ result_avp 2001 ∷ []) ∷ [])

pub end_of_session-is : message end_of_session ≡ end_of_session_message
unfolding message decode_pairs end_of_session end_of_session_message
end_of_session-is = refl

pub end_of_session-viewed : view_under (strict []) end_of_session_message ≡ Ok end_of_session_request
unfolding end_of_session_message end_of_session_request view_under counted grammar_fault has_row split_of split_from value_refusal subscription_refusal units_refusal service_refusal is_utf8 chars encode
end_of_session-viewed = refl

pub end_of_session-replied : answer_of (with_take new_book moment with_credit_request) end_of_session_request ≡ Ok (fresh_with end_of_session_reply 1)
unfolding end_of_session_request end_of_session_reply with_credit_request kept_reply postings_of reply_to
end_of_session-replied = refl

pub end_of_session-written : answer_avps front_name realm_name end_of_session_message end_of_session_request end_of_session_reply ≡ end_of_session_avps
unfolding end_of_session_message end_of_session_request end_of_session_reply end_of_session_avps split_of split_from
end_of_session-written = refl

pub end_of_session-spelled : octets_of (answer_of_avps end_of_session_message end_of_session_avps) ≡ from_hex answer_end_of_session
unfolding end_of_session_message end_of_session_avps octets_of decode_pairs answer_end_of_session
end_of_session-spelled = refl

pub end_of_session-answered : answered (with_credit ∷ []) end_of_session ≡ from_hex answer_end_of_session
end_of_session-answered = answered_by (with_credit ∷ []) end_of_session answer_end_of_session (with_take new_book moment with_credit_request) end_of_session_message end_of_session_request (fresh_with end_of_session_reply 1) end_of_session_avps with_credit-behind end_of_session-is end_of_session-viewed end_of_session-replied end_of_session-written end_of_session-spelled
