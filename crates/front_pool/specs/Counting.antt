-- What a seat counts, and the receipts that tell of it.
use Rattle.std.specs.Prelude.{ℕ, List, sum_by, Option, Some, None}
use Rattle.cc_shared.specs.declared.asking.Served.{Served}
use Rattle.cc_shared.specs.declared.receipt.Receipt.{Receipt}
use Rattle.cc_shared.specs.Serving.{count_after, count_if}
use Rattle.front_pool.specs.declared.job.Finished.{Finished}
use Rattle.front_pool.specs.declared.job.Job.{Job}

-- The count of a seat behind a job that hands this receipt on: one more where the receipt is fresh, and the same where it is
-- not, or there is none.
abbrev pub counted_with : ℕ → Option Receipt → ℕ
counted_with counted None = counted
counted_with counted (Some receipt) = count_if receipt.fresh counted

-- how many takes of the book this finished job tells of: one, if its receipt is fresh
abbrev pub takes_of : Finished → ℕ
takes_of finished = counted_with 0 finished.receipt

-- how many takes of the book these finished jobs tell of
abbrev pub takes_told : List Finished → ℕ
takes_told finished = sum_by takes_of finished

-- how many takes of the book this answer of the book tells of
abbrev pub takes_served : Served Job → ℕ
takes_served served = count_after 0 served.result
