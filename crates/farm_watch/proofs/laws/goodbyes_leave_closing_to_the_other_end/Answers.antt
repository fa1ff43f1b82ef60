use Rattle.std.proofs.Common.{refl}
use Rattle.hex.specs.Hex.{decode_pairs}
use Rattle.dia_avp.specs.AvpReading.{split_from, split_of}
use Rattle.dia_message.specs.Spelling.{octets_of}
use Rattle.farm_watch.specs.PeerMessages.{cea, cer, dpr, dwr, success_to}
use Rattle.farm_watch.proofs.laws.goodbyes_leave_closing_to_the_other_end.Goals as goal

pub returns-clause-answered : goal.returns-clause-answered
unfolding decode_pairs split_of split_from octets_of cea cer dpr dwr success_to
returns-clause-answered c = refl

pub returns-clause-asked : goal.returns-clause-asked
unfolding decode_pairs split_of split_from octets_of cea cer dpr dwr success_to
returns-clause-asked c = refl

pub returns-clause-causes : goal.returns-clause-causes
unfolding decode_pairs split_of split_from octets_of cea cer dpr dwr success_to
returns-clause-causes c = refl

pub returns-clause-passes : goal.returns-clause-passes
unfolding decode_pairs split_of split_from octets_of cea cer dpr dwr success_to
returns-clause-passes c = refl

pub returns-clause-waits : goal.returns-clause-waits
unfolding decode_pairs split_of split_from octets_of cea cer dpr dwr success_to
returns-clause-waits c = refl

pub returns-clause-gives_up : goal.returns-clause-gives_up
unfolding decode_pairs split_of split_from octets_of cea cer dpr dwr success_to
returns-clause-gives_up c = refl

pub returns-clause-closes : goal.returns-clause-closes
unfolding decode_pairs split_of split_from octets_of cea cer dpr dwr success_to
returns-clause-closes c = refl

pub returns-clause-at_once : goal.returns-clause-at_once
unfolding decode_pairs split_of split_from octets_of cea cer dpr dwr success_to
returns-clause-at_once c = refl
