use Rattle.pool_law.proofs.Batching.{happen_in_a_row}
use Rattle.pool_law.proofs.laws.batches_happen_in_a_row.Goals as goal

pub returns : goal.returns
returns c = λ site shared node front written asked served old count counted before behind there book held each.
    happen_in_a_row site shared node front written asked served old count counted before behind there book held each
