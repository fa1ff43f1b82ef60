use Rattle.front_core.proofs.FrontTally.{arrival-kept, charges-is, emit-kept, pick-is, refusal-is}
use Rattle.front_core.proofs.laws.requests_wait_for_their_answers.Goals as goal

pub returns : goal.returns
returns c = record {
  arrival = λ front on message conn hop end. arrival-kept conn hop end front on message;
  pick = λ front next worker conn hop end e. pick-is conn hop end front next worker e;
  charge = λ front ledger moment worker turn conn hop end e. charges-is conn hop end front ledger moment worker turn e;
  refusal = λ front next worker conn hop end e. refusal-is conn hop end front next worker e;
  emit = λ front worker turn conn hop end e up. emit-kept conn hop end front worker turn e up;
}
