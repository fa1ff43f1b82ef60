-- What is put behind others.
use Rattle.std.specs.Prelude.{◌≡◌, ℕ, List, ◌++◌}

-- the others stay
pub record Grows (old new : List ℕ) : Type 0 where
  pub more : List ℕ
  pub all : new ≡ old ++ more
