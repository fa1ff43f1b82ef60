use Rattle.std.proofs.Common.{◌≡◌, ℕ, zero, suc, ◌+◌, ◌<◌, true, List, refl, [], ◌∷◌, arith}
use Rattle.relay_hops.specs.declared.row.Row.{Row}
use Rattle.relay_hops.specs.Identifiers.{identifier_of, is_taken, places_for}
use Rattle.relay_hops.specs.IdentifierExample.{of_two, row_under}
use Rattle.relay_hops.proofs.OneGiven.{gives_only}
use Rattle.relay_hops.proofs.examples.places_in_use_are_passed_over.Goals as goal

one : (P : ℕ → Type 0) → P 0 → (k : ℕ) → k < 1 → P k
one P here zero lt = here
one P here (suc k) lt = absurd (omega arith)

two : (P : ℕ → Type 0) → P 0 → P 1 → (k : ℕ) → k < 2 → P k
two P here next zero lt = here
two P here next (suc zero) lt = next
two P here next (suc (suc k)) lt = absurd (omega arith)

IsTaken : List Row → ℕ → ℕ → Type 0
IsTaken rows from k = is_taken 4 rows (identifier_of (from + k)) ≡ true

pub returns-clause-passed : goal.returns-clause-passed
unfolding places_for IsTaken
returns-clause-passed c =
    gives_only (of_two (row_under 2147483649 ∷ []) 5) 2147483654 7
    (record { passed = 1; taken = one (IsTaken (row_under 2147483649 ∷ []) 5) refl; free = refl; hop_is = refl; next_is = refl })

pub returns-clause-both : goal.returns-clause-both
unfolding places_for IsTaken
returns-clause-both c =
    gives_only (of_two (row_under 2147483650 ∷ row_under 2147483649 ∷ []) 5) 2147483655 8
    (record { passed = 2; taken = two (IsTaken (row_under 2147483650 ∷ row_under 2147483649 ∷ []) 5) refl refl; free = refl; hop_is = refl; next_is = refl })

pub returns-clause-around : goal.returns-clause-around
unfolding places_for IsTaken
returns-clause-around c =
    gives_only (of_two (row_under 4294967295 ∷ []) 2147483647) 2147483648 1
    (record { passed = 1; taken = one (IsTaken (row_under 4294967295 ∷ []) 2147483647) refl; free = refl; hop_is = refl; next_is = refl })
