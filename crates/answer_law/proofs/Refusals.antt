-- A request that the front refuses, step by step.
use Rattle.std.proofs.Common.{◌≡◌, List, [], ◌∷◌, Some, Err, refl}
use Rattle.std.specs.Prelude.{codes}
use Rattle.std.specs.Str.{is_utf8, chars}
use lib.Utf8.{encode}
use Rattle.hex.specs.Hex.{decode_pairs}
use Rattle.dia_avp.specs.declared.avp.RawAvp.{RawAvp}
use Rattle.dia_avp.specs.AvpExample.{from_hex, group}
use Rattle.dia_avp.specs.AvpReading.{split_from, split_of}
use Rattle.dia_message.specs.declared.message.Message.{Message}
use Rattle.dia_message.specs.Spelling.{octets_of}
use Rattle.dia_grammar.specs.Grammar.{grammar_fault, has_row}
use Rattle.dia_grammar.specs.Profile.{strict}
use Rattle.cc_view.specs.Answer.Writing.{u32_avp}
use Rattle.cc_view.specs.FirstDebit.{front_name, realm_name}
use Rattle.cc_view.specs.RequestView.Checking.{service_refusal, subscription_refusal, units_refusal, value_refusal}
use Rattle.cc_view.specs.RequestView.{view_under}
use Rattle.cc_view.specs.RequestView.Counting.{counted}
use Rattle.answer_law.specs.AnswerExample.{without_number, answer_without_number, answered, message}
use Rattle.answer_law.proofs.Messages.{any_units_avp, rating_avp, result_avp, service_group, subscriber_avp}
use Rattle.answer_law.proofs.Answering.{refusal_of_avps, refused_by}
use Rattle.answer_law.proofs.Messages.{leading_avps}
use Rattle.dia_avp.specs.AvpExample.{avp}
use Rattle.dia_avp.specs.AvpList.{written_list}
use Rattle.cc_view.specs.declared.code.ResultCode.TheVariants.{MissingAvp}
use Rattle.cc_view.specs.declared.refusal.Refusal.{Refusal}
use Rattle.cc_view.specs.Answer.{refusal_avps}
use Rattle.cc_view.specs.FirstDebit.{debit_header}
use Rattle.cc_view.specs.Refusal.FailedAvp.{kind_at}

unfoldable pub without_number_message : Message
without_number_message = record { header = debit_header; body = written_list (leading_avps (codes "c1;2;8") 1 (subscriber_avp (codes "491700000001") ∷ service_group (any_units_avp ∷ rating_avp 10 ∷ []) ∷ [])) }

-- CC-Request-Number in its least form
unfoldable pub without_number_refusal : Refusal
without_number_refusal = record { code = MissingAvp; failed = Some (u32_avp 415 0) }

unfoldable pub without_number_avps : List RawAvp
without_number_avps = avp 263 (codes "c1;2;8") ∷ avp 264 (codes "f1.example") ∷ avp 296 (codes "ocs.example") ∷ result_avp 5005 ∷ group 279 (u32_avp 415 0 ∷ []) ∷ []

pub without_number-is : message without_number ≡ without_number_message
unfolding message decode_pairs without_number without_number_message
without_number-is = refl

pub without_number-viewed : view_under (strict []) without_number_message ≡ Err without_number_refusal
unfolding without_number_message without_number_refusal view_under counted grammar_fault has_row split_of split_from value_refusal subscription_refusal units_refusal service_refusal is_utf8 chars encode kind_at
without_number-viewed = refl

pub without_number-written : refusal_avps front_name realm_name without_number_message without_number_refusal ≡ without_number_avps
unfolding without_number_message without_number_refusal without_number_avps split_of split_from
without_number-written = refl

pub without_number-spelled : octets_of (refusal_of_avps without_number_message without_number_avps) ≡ from_hex answer_without_number
unfolding without_number_message without_number_avps octets_of decode_pairs answer_without_number
without_number-spelled = refl

pub without_number-answered : answered [] without_number ≡ from_hex answer_without_number
without_number-answered = refused_by [] without_number answer_without_number without_number_message without_number_refusal without_number_avps without_number-is without_number-viewed without_number-written without_number-spelled
