use Rattle.std.proofs.Common.{refl, [], ◌∷◌, arith}
use Rattle.relay_hops.specs.Identifiers.{places_for}
use Rattle.relay_hops.specs.IdentifierExample.{of_two, row_under}
use Rattle.relay_hops.proofs.OneGiven.{gives_only}
use Rattle.relay_hops.proofs.examples.identifiers_rise_from_the_start.Goals as goal

pub returns-clause-first : goal.returns-clause-first
unfolding places_for
returns-clause-first c = gives_only (of_two [] 0) 2147483648 1 (record { passed = 0; taken = λ k lt. absurd (omega arith); free = refl; hop_is = refl; next_is = refl })

pub returns-clause-second : goal.returns-clause-second
unfolding places_for
returns-clause-second c = gives_only (of_two (row_under 2147483648 ∷ []) 1) 2147483649 2 (record { passed = 0; taken = λ k lt. absurd (omega arith); free = refl; hop_is = refl; next_is = refl })

pub returns-clause-answered : goal.returns-clause-answered
unfolding places_for
returns-clause-answered c = gives_only (of_two (row_under 2147483649 ∷ []) 2) 2147483650 3 (record { passed = 0; taken = λ k lt. absurd (omega arith); free = refl; hop_is = refl; next_is = refl })

pub returns-clause-last : goal.returns-clause-last
unfolding places_for
returns-clause-last c = gives_only (of_two [] 2147483647) 4294967295 0 (record { passed = 0; taken = λ k lt. absurd (omega arith); free = refl; hop_is = refl; next_is = refl })
