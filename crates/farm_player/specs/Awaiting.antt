-- What records tell that passes at nodes, and that has not passed yet.
use Rattle.std.specs.Prelude.{◌≡◌, ◌<◌, ℕ, Bool, true, false, List, [], ◌∷◌, ◌++◌, length, drop, Option, Some, None, option_map, slice_get, if◌then◌else◌}
use Rattle.dia_base.specs.declared.number.NodeNo.{NodeNo}
use Rattle.farm_base.specs.Nodes.{is_node}
use Rattle.farm_player.specs.Passing.{Passage}

-- of each node, by its number, what it is told to pass next, the first first; none of a node that is not watched
abbrev pub AwaitedList : Type 0
AwaitedList = List (Option (List Passage))

abbrev pub told_in : Option (Option (List Passage)) → Option (List Passage)
told_in None = None
told_in (Some told) = told

abbrev pub told_at : NodeNo → AwaitedList → Option (List Passage)
told_at node awaited = told_in (slice_get awaited node.0)

-- of one node alone it has changed, to this
abbrev pub IsChangedAt : NodeNo → Option (List Passage) → AwaitedList → AwaitedList → Type 0
IsChangedAt node told old new = (other : NodeNo) → told_at other new ≡ (if is_node other node then told else told_at other old)

-- the place of a node that is watched
abbrev pub IsWatchedAt : NodeNo → AwaitedList → Option ℕ → Type 0
IsWatchedAt node awaited None = told_at node awaited ≡ None
IsWatchedAt node awaited (Some place) = (place ≡ node.0) × (place < length awaited)

abbrev pub with_told : Passage → Option (List Passage) → Option (List Passage)
with_told passage told = option_map (λ all. all ++ passage ∷ []) told

abbrev pub without_first : Option (List Passage) → Option (List Passage)
without_first told = option_map (λ all. drop 1 all) told

-- this is told to pass next
abbrev pub IsNext : Passage → Option (List Passage) → Type 0
IsNext passage told = (rest : List Passage) × (told ≡ Some (passage ∷ rest))

abbrev pub is_settled : Option (List Passage) → Bool
is_settled None = true
is_settled (Some []) = true
is_settled (Some (passage ∷ rest)) = false
