-- What is left of rows when a connection has ended, and the rows as a slab's iterator gives them.
use Rattle.std.proofs.Common.{◌≡◌, ℕ, zero, suc, ◌+◌, Bool, true, cond, List, [], ◌∷◌, map, get_or, Option, Some, None, option_map, is_some, MutBor, refl, ap, sym, subst, ◌∙◌, arith}
use Rattle.std.specs.List.{count_by}
use Rattle.slab.specs.Slab.{entries_from, RetainsFrom}
use Rattle.dia_base.specs.declared.number.ConnId.{ConnId}
use Rattle.relay_hops.specs.declared.row.Row.{Row}
use Rattle.relay_hops.specs.PendingTable.{hop_of, orphaned}
use Rattle.relay_hops.specs.PlaceTable.{rows_at, AreIndexed}
use Rattle.dia_base.proofs.Counting.{count-cons}
use Rattle.relay_hops.proofs.Slab.{indexed_kept}

-- what `retain` leaves where the closure keeps all values, each changed in one way
module _ {T F : Type 0} (step : F → ℕ → MutBor T → Bool → MutBor T → F → Type 0) (change : T → T) (f : F)
    (says : (key : ℕ) (shown : MutBor T) (keep : Bool) (left : MutBor T) (next : F) → step f key shown keep left next → (keep ≡ true) × (left.now ≡ change shown.now) × (next ≡ f)) where
  pub map-RetainsFrom : (key : ℕ) (old kept : List (Option T)) → RetainsFrom step f key old kept → kept ≡ map (option_map change) old
  map-RetainsFrom key [] kept h = h
  map-RetainsFrom key (None ∷ rest) kept h = h.1 ∙ ap (λ (xs : List (Option T)). None ∷ xs) (map-RetainsFrom (key + 1) rest h.0 h.2)
  map-RetainsFrom key (Some old ∷ rest) kept h =
      let s = says key h.3.shown h.0 h.3.left h.2 h.3.called in
      let changed : h.1 ≡ change old = sym h.3.leaves ∙ s.1 ∙ ap change h.3.shows in
      let later : h.4 ≡ map (option_map change) rest = map-RetainsFrom (key + 1) rest h.4 (subst (λ (g : F). RetainsFrom step g (key + 1) rest h.4) s.2 h.6) in
      h.5 ∙ ap (λ b. cond b (Some h.1) None ∷ h.4) s.0 ∙ ap (λ (x : T). Some x ∷ h.4) changed ∙ ap (λ (xs : List (Option T)). Some (change old) ∷ xs) later

pub len-map : {T : Type 0} (change : T → T) (slots : List (Option T)) → count_by is_some (map (option_map change) slots) ≡ count_by is_some slots
len-map change [] = refl
len-map change (None ∷ slots) = omega (arith, count-cons is_some (option_map change None) (map (option_map change) slots), count-cons is_some None slots, len-map change slots)
len-map change (Some x ∷ slots) = omega (arith, count-cons is_some (option_map change (Some x)) (map (option_map change) slots), count-cons is_some (Some x) slots, len-map change slots)

abbrev pub lose : ConnId → Option Row → Option Row
lose conn slot = option_map (orphaned conn) slot

pub rows-orphaned : (conn : ConnId) (slots : List (Option Row)) → rows_at (map (lose conn) slots) ≡ map (orphaned conn) (rows_at slots)
rows-orphaned conn [] = refl
rows-orphaned conn (None ∷ slots) = rows-orphaned conn slots
rows-orphaned conn (Some row ∷ slots) = ap (λ (rows : List Row). orphaned conn row ∷ rows) (rows-orphaned conn slots)

back : (conn : ConnId) (slots : List (Option Row)) (key : ℕ) (row : Row) → get_or (map (lose conn) slots) key None ≡ Some row → (r : Row) × (get_or slots key None ≡ Some r) × (hop_of r ≡ hop_of row)
back conn [] key row e = absurd cc
back conn (None ∷ slots) zero row e = absurd cc
back conn (Some other ∷ slots) zero row e = let same : orphaned conn other ≡ row = cc in (other, refl, ap hop_of same)
back conn (slot ∷ slots) (suc key) row e = back conn slots key row e

forth : (conn : ConnId) (slots : List (Option Row)) (key : ℕ) (row : Row) → get_or slots key None ≡ Some row → (r : Row) × (get_or (map (lose conn) slots) key None ≡ Some r) × (hop_of r ≡ hop_of row)
forth conn [] key row e = absurd cc
forth conn (None ∷ slots) zero row e = absurd cc
forth conn (Some other ∷ slots) zero row e = let same : other ≡ row = cc in (orphaned conn other, refl, ap hop_of same)
forth conn (slot ∷ slots) (suc key) row e = forth conn slots key row e

pub indexed-orphaned : (conn : ConnId) (slots : List (Option Row)) (keys : List (Option ℕ)) → AreIndexed slots keys → AreIndexed (map (lose conn) slots) keys
indexed-orphaned conn slots keys s = indexed_kept slots (map (lose conn) slots) keys s (back conn slots) (forth conn slots) (len-map (orphaned conn) slots)

-- ---- the rows as a slab's iterator gives them

abbrev pub rows_in : List (ℕ × Row) → List Row
rows_in entries = map (λ entry. entry.1) entries

pub rows-entries : (first : ℕ) (slots : List (Option Row)) → rows_in (entries_from first slots) ≡ rows_at slots
rows-entries first [] = refl
rows-entries first (None ∷ slots) = rows-entries (first + 1) slots
rows-entries first (Some row ∷ slots) = ap (λ (rows : List Row). row ∷ rows) (rows-entries (first + 1) slots)
