use Rattle.std.proofs.Common.{refl}
use Rattle.hex.specs.Hex.{decode_pairs}
use Rattle.dia_avp.specs.AvpReading.{split_from, split_of}
use Rattle.dia_message.specs.Spelling.{octets_of}
use Rattle.farm_watch.specs.PeerMessages.{cea, cer, dpr, dwr, success_to}
use Rattle.farm_watch.proofs.laws.only_linked_nodes_are_welcome.Goals as goal

pub returns-clause-relay : goal.returns-clause-relay
unfolding decode_pairs split_of split_from octets_of cea cer dpr dwr success_to
returns-clause-relay c = refl

pub returns-clause-vendor : goal.returns-clause-vendor
unfolding decode_pairs split_of split_from octets_of cea cer dpr dwr success_to
returns-clause-vendor c = refl

pub returns-clause-up : goal.returns-clause-up
unfolding decode_pairs split_of split_from octets_of cea cer dpr dwr success_to
returns-clause-up c = refl

pub returns-clause-stranger : goal.returns-clause-stranger
unfolding decode_pairs split_of split_from octets_of cea cer dpr dwr success_to
returns-clause-stranger c = refl

pub returns-clause-application : goal.returns-clause-application
unfolding decode_pairs split_of split_from octets_of cea cer dpr dwr success_to
returns-clause-application c = refl

pub returns-clause-success : goal.returns-clause-success
unfolding decode_pairs split_of split_from octets_of cea cer dpr dwr success_to
returns-clause-success c = refl

pub returns-clause-vendors : goal.returns-clause-vendors
unfolding decode_pairs split_of split_from octets_of cea cer dpr dwr success_to
returns-clause-vendors c = refl
