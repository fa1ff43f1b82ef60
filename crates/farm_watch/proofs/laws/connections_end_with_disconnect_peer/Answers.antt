use Rattle.std.proofs.Common.{refl}
use Rattle.hex.specs.Hex.{decode_pairs}
use Rattle.dia_avp.specs.AvpReading.{split_from, split_of}
use Rattle.dia_message.specs.Spelling.{octets_of}
use Rattle.farm_watch.specs.PeerMessages.{cea, cer, dpr, dwr, success_to}
use Rattle.farm_watch.proofs.laws.connections_end_with_disconnect_peer.Goals as goal

pub returns-clause-closes : goal.returns-clause-closes
unfolding decode_pairs split_of split_from octets_of cea cer dpr dwr success_to
returns-clause-closes c = refl

pub returns-clause-answered : goal.returns-clause-answered
unfolding decode_pairs split_of split_from octets_of cea cer dpr dwr success_to
returns-clause-answered c = refl

pub returns-clause-unanswered : goal.returns-clause-unanswered
unfolding decode_pairs split_of split_from octets_of cea cer dpr dwr success_to
returns-clause-unanswered c = refl

pub returns-clause-is_closed : goal.returns-clause-is_closed
unfolding decode_pairs split_of split_from octets_of cea cer dpr dwr success_to
returns-clause-is_closed c = refl
