use Rattle.relay_core.proofs.Descending.{loop-back}
use Rattle.relay_core.proofs.laws.returning_requests_loop.Goals as goal

pub returns : goal.returns
returns c = loop-back c.one_avp_more.ensures.avp c.added_record_names.ensures c.names_with_more.ensures c.loops_have_a_record_of_the_node.ensures
