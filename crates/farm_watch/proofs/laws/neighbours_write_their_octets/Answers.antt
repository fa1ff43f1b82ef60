use Rattle.std.proofs.Common.{refl}
use Rattle.hex.specs.Hex.{decode_pairs}
use Rattle.dia_avp.specs.AvpReading.{split_from, split_of}
use Rattle.dia_message.specs.Spelling.{octets_of}
use Rattle.farm_watch.specs.PeerMessages.{cea, cer, dpr, dwr, success_to}
use Rattle.farm_watch.proofs.laws.neighbours_write_their_octets.Goals as goal

pub returns-clause-cer : goal.returns-clause-cer
unfolding decode_pairs split_of split_from octets_of cea cer dpr dwr success_to
returns-clause-cer c = refl

pub returns-clause-client : goal.returns-clause-client
unfolding decode_pairs split_of split_from octets_of cea cer dpr dwr success_to
returns-clause-client c = refl

pub returns-clause-cea : goal.returns-clause-cea
unfolding decode_pairs split_of split_from octets_of cea cer dpr dwr success_to
returns-clause-cea c = refl

pub returns-clause-refusing : goal.returns-clause-refusing
unfolding decode_pairs split_of split_from octets_of cea cer dpr dwr success_to
returns-clause-refusing c = refl

pub returns-clause-dwr : goal.returns-clause-dwr
unfolding decode_pairs split_of split_from octets_of cea cer dpr dwr success_to
returns-clause-dwr c = refl

pub returns-clause-dwa : goal.returns-clause-dwa
unfolding decode_pairs split_of split_from octets_of cea cer dpr dwr success_to
returns-clause-dwa c = refl

pub returns-clause-dpr : goal.returns-clause-dpr
unfolding decode_pairs split_of split_from octets_of cea cer dpr dwr success_to
returns-clause-dpr c = refl

pub returns-clause-dpa : goal.returns-clause-dpa
unfolding decode_pairs split_of split_from octets_of cea cer dpr dwr success_to
returns-clause-dpa c = refl

pub returns-clause-cer_of_vendors : goal.returns-clause-cer_of_vendors
unfolding decode_pairs split_of split_from octets_of cea cer dpr dwr success_to
returns-clause-cer_of_vendors c = refl

pub returns-clause-cea_of_vendor : goal.returns-clause-cea_of_vendor
unfolding decode_pairs split_of split_from octets_of cea cer dpr dwr success_to
returns-clause-cea_of_vendor c = refl

pub returns-clause-cea_of_state : goal.returns-clause-cea_of_state
unfolding decode_pairs split_of split_from octets_of cea cer dpr dwr success_to
returns-clause-cea_of_state c = refl

pub returns-clause-cer_of_state : goal.returns-clause-cer_of_state
unfolding decode_pairs split_of split_from octets_of cea cer dpr dwr success_to
returns-clause-cer_of_state c = refl

pub returns-clause-dwr_of_state : goal.returns-clause-dwr_of_state
unfolding decode_pairs split_of split_from octets_of cea cer dpr dwr success_to
returns-clause-dwr_of_state c = refl

pub returns-clause-dwa_of_state : goal.returns-clause-dwa_of_state
unfolding decode_pairs split_of split_from octets_of cea cer dpr dwr success_to
returns-clause-dwa_of_state c = refl

pub returns-clause-dpr_of_state : goal.returns-clause-dpr_of_state
unfolding decode_pairs split_of split_from octets_of cea cer dpr dwr success_to
returns-clause-dpr_of_state c = refl

pub returns-clause-dpa_of_state : goal.returns-clause-dpa_of_state
unfolding decode_pairs split_of split_from octets_of cea cer dpr dwr success_to
returns-clause-dpa_of_state c = refl
