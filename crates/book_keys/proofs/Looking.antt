-- What a seek in an index in order gives first is the first entry that has the key, if one has it.
use Rattle.std.proofs.Common.{◌≡◌, true, false, List, [], ◌∷◌, Option, Some, None, refl, sym, ap, ◌∙◌, Ordering, Less, Equal, Greater, is_gt, is_eq, true≢false}
use Rattle.std.specs.List.{AllByRecursion}
use Rattle.sqlite_value.specs.Order.{Row}
use Rattle.sqlite_value.specs.Keys.{plain, prefix_cmp}
use Rattle.sqlite_trees.specs.Tree.{from_key, IsIndex}
use Rattle.sqlite_trees.proofs.TreeLemmas.{prefix_cmp_follows, sorted_index, IsSortedTree, AtMost}
use Rattle.book_keys.specs.Keys.{first_with, has_key, Gives}

-- none has a key of which all are above it
none_above : (sought : Row) (es : List Row) → AllByRecursion (λ e. is_gt (prefix_cmp plain e sought) ≡ true) es → first_with sought es ≡ None
none_above sought [] all = refl
none_above sought (e ∷ es) all = go (prefix_cmp plain e sought) refl all.0 (none_above sought es all.1)
  where
    go : (o : Ordering) → prefix_cmp plain e sought ≡ o → is_gt (prefix_cmp plain e sought) ≡ true → first_with sought es ≡ None → first_with sought (e ∷ es) ≡ None
    go Less t gt more = absurd (true≢false (sym gt ∙ ap is_gt t))
    go Equal t gt more = absurd (true≢false (sym gt ∙ ap is_gt t))
    go Greater t gt more = rw t more

-- those behind one that is above a key are
all_above : (sought e : Row) (es : List Row) → is_gt (prefix_cmp plain e sought) ≡ true → AllByRecursion (AtMost plain e) es → AllByRecursion (λ x. is_gt (prefix_cmp plain x sought) ≡ true) es
all_above sought e [] gt all = tt
all_above sought e (x ∷ es) gt all = ((prefix_cmp_follows plain sought e x all.0).1 gt, all_above sought e es gt all.1)

-- the entries from the first that is not below a key, and the first that has it
pub data Starts (sought : Row) : List Row → Option Row → Type 0 where
  nothing : Starts sought [] None
  other : (e : Row) (left : List Row) → has_key sought e ≡ false → Starts sought (e ∷ left) None
  this : (e : Row) (left : List Row) → has_key sought e ≡ true → Starts sought (e ∷ left) (Some e)

pub starts : (sought : Row) (es : List Row) → IsSortedTree plain es → Starts sought (from_key plain sought es) (first_with sought es)
starts sought [] up = nothing
starts sought (e ∷ es) up = go (prefix_cmp plain e sought) refl (starts sought es up.1)
  where
    go : (o : Ordering) → prefix_cmp plain e sought ≡ o → Starts sought (from_key plain sought es) (first_with sought es) → Starts sought (from_key plain sought (e ∷ es)) (first_with sought (e ∷ es))
    go Less t more = rw t more
    go Equal t more = rw t (this e es (ap is_eq t))
    go Greater t more = rw (t, none_above sought es (all_above sought e es (ap is_gt t) up.0)) (other e es (ap is_eq t))

none_left : (sought : Row) (entries : List Row) (first : Option Row) → Starts sought entries first → entries ≡ [] → first ≡ None
none_left sought entries first nothing h = refl
none_left sought entries first (other e left p) h = refl
none_left sought entries first (this e left p) h = cc

other_left : (sought row : Row) (entries left : List Row) (first : Option Row) → Starts sought entries first → entries ≡ row ∷ left → has_key sought row ≡ false → first ≡ None
other_left sought row entries left first nothing h p = refl
other_left sought row entries left first (other e more q) h p = refl
other_left sought row entries left first (this e more q) h p = let same : e ≡ row = cc in absurd (true≢false (sym q ∙ ap (has_key sought) same ∙ p))

this_left : (sought row : Row) (entries left : List Row) (first : Option Row) → Starts sought entries first → entries ≡ row ∷ left → has_key sought row ≡ true → first ≡ Some row
this_left sought row entries left first nothing h p = cc
this_left sought row entries left first (other e more q) h p = let same : e ≡ row = cc in absurd (true≢false (sym p ∙ ap (has_key sought) (sym same) ∙ q))
this_left sought row entries left first (this e more q) h p = let same : e ≡ row = cc in ap Some same

pub none_found : (entries : List Row) (sought row : Row) → IsIndex plain entries → Gives (from_key plain sought entries) row false → first_with sought entries ≡ None
none_found entries sought row up gives = none_left sought _ _ (starts sought entries (sorted_index plain entries up)) gives

pub other_found : (entries : List Row) (sought row : Row) → IsIndex plain entries → Gives (from_key plain sought entries) row true → has_key sought row ≡ false → first_with sought entries ≡ None
other_found entries sought row up gives p = other_left sought row _ gives.0 _ (starts sought entries (sorted_index plain entries up)) gives.1 p

pub this_found : (entries : List Row) (sought row : Row) → IsIndex plain entries → Gives (from_key plain sought entries) row true → has_key sought row ≡ true → first_with sought entries ≡ Some row
this_found entries sought row up gives p = this_left sought row _ gives.0 _ (starts sought entries (sorted_index plain entries up)) gives.1 p
