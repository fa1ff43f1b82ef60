use Rattle.relay_routes.proofs.Loops.{IsLoop-from_test, test-from_IsLoop}
use Rattle.relay_routes.proofs.laws.loops_have_a_record_of_the_node.Goals as goal

pub returns : goal.returns
returns c = λ node body. (IsLoop-from_test node body, test-from_IsLoop node body)
