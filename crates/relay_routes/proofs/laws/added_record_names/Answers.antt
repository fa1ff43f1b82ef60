use Rattle.std.proofs.Common.{◌≡◌, ℕ, List, [], ◌∷◌, Bool, true, false, ◌||◌, refl, ◌∙◌}
use Rattle.std.proofs.lemmas.Cmp.{nat_list_eq_equiv}
use Rattle.std.proofs.lemmas.List.Folds.{list_any-append}
use Rattle.dia_base.specs.Folding.{folded_of, same_folded}
use Rattle.relay_routes.specs.Routing.{names_node, is_record_of, record_of}
use Rattle.relay_routes.proofs.laws.added_record_names.Goals as goal

or_last : (a b : Bool) → b ≡ true → (a || (b || false)) ≡ true
or_last true b e = refl
or_last false true e = refl
or_last false false e = e

its_own : (node : List ℕ) → same_folded node node ≡ true
its_own node = nat_list_eq_equiv.refl (folded_of node)

pub returns : goal.returns
returns c = λ node avps. list_any-append (is_record_of node) avps (record_of node ∷ []) ∙ or_last (names_node node avps) (is_record_of node (record_of node)) (its_own node)
