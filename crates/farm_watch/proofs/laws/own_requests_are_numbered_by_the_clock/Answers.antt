use Rattle.std.proofs.Common.{refl}
use Rattle.hex.specs.Hex.{decode_pairs}
use Rattle.dia_avp.specs.AvpReading.{split_from, split_of}
use Rattle.dia_message.specs.Spelling.{octets_of}
use Rattle.farm_watch.specs.PeerMessages.{cea, cer, dpr, dwr, success_to}
use Rattle.farm_watch.proofs.laws.own_requests_are_numbered_by_the_clock.Goals as goal

pub returns-clause-cer : goal.returns-clause-cer
unfolding decode_pairs split_of split_from octets_of cea cer dpr dwr success_to
returns-clause-cer c = refl

pub returns-clause-next : goal.returns-clause-next
unfolding decode_pairs split_of split_from octets_of cea cer dpr dwr success_to
returns-clause-next c = refl

pub returns-clause-dwr : goal.returns-clause-dwr
unfolding decode_pairs split_of split_from octets_of cea cer dpr dwr success_to
returns-clause-dwr c = refl

pub returns-clause-dwa : goal.returns-clause-dwa
unfolding decode_pairs split_of split_from octets_of cea cer dpr dwr success_to
returns-clause-dwa c = refl

pub returns-clause-stands : goal.returns-clause-stands
unfolding decode_pairs split_of split_from octets_of cea cer dpr dwr success_to
returns-clause-stands c = refl

pub returns-clause-passed : goal.returns-clause-passed
unfolding decode_pairs split_of split_from octets_of cea cer dpr dwr success_to
returns-clause-passed c = refl
