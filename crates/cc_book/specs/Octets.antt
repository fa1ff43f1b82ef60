-- Octets that are the same: those of a Session-Id, or of a Subscription-Id-Data.
use Rattle.std.specs.Prelude.{ℕ, List, Bool, nat_eq}
use lib.Pointwise.{pointwise}

abbrev pub same_session : List ℕ → List ℕ → Bool
same_session = pointwise nat_eq
