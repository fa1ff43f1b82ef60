use Rattle.std.proofs.Common.{◌≢◌, ℕ, ◌<◌, Some}
use Rattle.dia_dict.specs.Dictionary.{name_of}
use Rattle.dia_dict.proofs.rows.code_of_name.Given as goal

-- no code so far has the name
abbrev pub invariant-loop-number : goal.invariant-loop-number
invariant-loop-number l = (k : ℕ) → k < l.number → name_of k ≢ Some l.name
