use Rattle.std.proofs.Common.{refl}
use Rattle.hex.specs.Hex.{decode_pairs}
use Rattle.dia_avp.specs.AvpReading.{split_from, split_of}
use Rattle.dia_message.specs.Spelling.{octets_of}
use Rattle.farm_watch.specs.PeerMessages.{cea, cer, dpr, dwr, success_to}
use Rattle.farm_watch.proofs.laws.connections_begin_with_capabilities.Goals as goal

pub returns-clause-connects : goal.returns-clause-connects
unfolding decode_pairs split_of split_from octets_of cea cer dpr dwr success_to
returns-clause-connects c = refl

pub returns-clause-greets : goal.returns-clause-greets
unfolding decode_pairs split_of split_from octets_of cea cer dpr dwr success_to
returns-clause-greets c = refl

pub returns-clause-refuses : goal.returns-clause-refuses
unfolding decode_pairs split_of split_from octets_of cea cer dpr dwr success_to
returns-clause-refuses c = refl

pub returns-clause-comes_up : goal.returns-clause-comes_up
unfolding decode_pairs split_of split_from octets_of cea cer dpr dwr success_to
returns-clause-comes_up c = refl

pub returns-clause-refused : goal.returns-clause-refused
unfolding decode_pairs split_of split_from octets_of cea cer dpr dwr success_to
returns-clause-refused c = refl

pub returns-clause-dwr : goal.returns-clause-dwr
unfolding decode_pairs split_of split_from octets_of cea cer dpr dwr success_to
returns-clause-dwr c = refl

pub returns-clause-late : goal.returns-clause-late
unfolding decode_pairs split_of split_from octets_of cea cer dpr dwr success_to
returns-clause-late c = refl
