-- Requests with a key that the book has, step by step.
use Rattle.std.proofs.Common.{◌≡◌, List, [], ◌∷◌, Ok, refl}
use Rattle.std.specs.Prelude.{codes}
use Rattle.hex.specs.Hex.{decode_pairs}
use Rattle.dia_avp.specs.declared.avp.RawAvp.{RawAvp}
use Rattle.dia_avp.specs.AvpExample.{from_hex}
use Rattle.dia_avp.specs.AvpReading.{split_from, split_of}
use Rattle.dia_message.specs.Spelling.{octets_of}
use Rattle.cc_view.specs.declared.code.ResultCode.TheVariants.{UnableToComply}
use Rattle.cc_view.specs.declared.reply.CcReply.{CcReply}
use Rattle.cc_view.specs.Answer.{answer_avps}
use Rattle.cc_view.specs.FirstDebit.{front_name, realm_name}
use Rattle.cc_book.specs.AccountMachine.{code_alone, kept_reply, postings_of, reply_to}
use Rattle.cc_book.specs.Taking.{Ledger, answer_of, with_take}
use Rattle.answer_law.specs.AnswerExample.{debit, answer_debit, debit_without_a_tariff, answer_another_content, answered, moment, new_book}
use Rattle.answer_law.proofs.Answering.{answer_of_avps, answered_by}
use Rattle.answer_law.proofs.Messages.{answering}
use Rattle.answer_law.proofs.Answering.{kept_with}
use Rattle.answer_law.proofs.Events.{debit-behind, debit-is, debit-spelled, debit-viewed, debit-written, debit_avps, debit_message, debit_reply, debit_request}
use Rattle.answer_law.proofs.Results.{debit_without_a_tariff-is, debit_without_a_tariff-viewed, debit_without_a_tariff_message, debit_without_a_tariff_request}

-- the book after the debit
unfoldable pub debited_book : Ledger
debited_book = with_take new_book moment debit_request

-- ---- the debit once more

pub debit-repeated : answer_of debited_book debit_request ≡ Ok (kept_with debit_reply 0)
unfolding debited_book debit_request debit_reply kept_reply postings_of reply_to
debit-repeated = refl

pub repeat-answered : answered (debit ∷ []) debit ≡ from_hex answer_debit
unfolding debited_book
repeat-answered = answered_by (debit ∷ []) debit answer_debit debited_book debit_message debit_request (kept_with debit_reply 0) debit_avps debit-behind debit-is debit-viewed debit-repeated debit-written debit-spelled

-- ---- another debit with its Session-Id and CC-Request-Number

unfoldable pub another_content_reply : CcReply
another_content_reply = code_alone UnableToComply

unfoldable pub another_content_avps : List RawAvp
another_content_avps = answering (codes "c1;2;7") 5012 4 0 []

pub another_content-refused : answer_of debited_book debit_without_a_tariff_request ≡ Ok (kept_with another_content_reply 0)
unfolding debited_book debit_request debit_without_a_tariff_request another_content_reply kept_reply postings_of reply_to
another_content-refused = refl

pub another_content-written : answer_avps front_name realm_name debit_without_a_tariff_message debit_without_a_tariff_request another_content_reply ≡ another_content_avps
unfolding debit_without_a_tariff_message debit_without_a_tariff_request another_content_reply another_content_avps split_of split_from
another_content-written = refl

pub another_content-spelled : octets_of (answer_of_avps debit_without_a_tariff_message another_content_avps) ≡ from_hex answer_another_content
unfolding debit_without_a_tariff_message another_content_avps octets_of decode_pairs answer_another_content
another_content-spelled = refl

pub another_content-answered : answered (debit ∷ []) debit_without_a_tariff ≡ from_hex answer_another_content
unfolding debited_book
another_content-answered = answered_by (debit ∷ []) debit_without_a_tariff answer_another_content debited_book debit_without_a_tariff_message debit_without_a_tariff_request (kept_with another_content_reply 0) another_content_avps debit-behind debit_without_a_tariff-is debit_without_a_tariff-viewed another_content-refused another_content-written another_content-spelled
