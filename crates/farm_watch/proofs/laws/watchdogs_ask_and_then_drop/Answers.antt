use Rattle.std.proofs.Common.{refl}
use Rattle.hex.specs.Hex.{decode_pairs}
use Rattle.dia_avp.specs.AvpReading.{split_from, split_of}
use Rattle.dia_message.specs.Spelling.{octets_of}
use Rattle.farm_watch.specs.PeerMessages.{cea, cer, dpr, dwr, success_to}
use Rattle.farm_watch.proofs.laws.watchdogs_ask_and_then_drop.Goals as goal

pub returns-clause-early : goal.returns-clause-early
unfolding decode_pairs split_of split_from octets_of cea cer dpr dwr success_to
returns-clause-early c = refl

pub returns-clause-asks : goal.returns-clause-asks
unfolding decode_pairs split_of split_from octets_of cea cer dpr dwr success_to
returns-clause-asks c = refl

pub returns-clause-waits : goal.returns-clause-waits
unfolding decode_pairs split_of split_from octets_of cea cer dpr dwr success_to
returns-clause-waits c = refl

pub returns-clause-gives_up : goal.returns-clause-gives_up
unfolding decode_pairs split_of split_from octets_of cea cer dpr dwr success_to
returns-clause-gives_up c = refl

pub returns-clause-answers : goal.returns-clause-answers
unfolding decode_pairs split_of split_from octets_of cea cer dpr dwr success_to
returns-clause-answers c = refl

pub returns-clause-hears : goal.returns-clause-hears
unfolding decode_pairs split_of split_from octets_of cea cer dpr dwr success_to
returns-clause-hears c = refl

pub returns-clause-identifiers : goal.returns-clause-identifiers
unfolding decode_pairs split_of split_from octets_of cea cer dpr dwr success_to
returns-clause-identifiers c = refl
