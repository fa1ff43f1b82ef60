-- A request that is put into the index of a book keeps it that book's.
use Rattle.std.proofs.Common.{◌≡◌, ◌==◌, ◌&&◌, if◌then◌else◌, ℕ, pos, Bool, true, false, List, [], ◌∷◌, Option, Some, None, option_map, refl, sym, ap, subst, ◌∙◌, Ordering, Less, Equal, Greater, is_lt, is_gt, is_eq, true≢false, bytes_eq}
use Rattle.std.specs.Bool.{Decides, one_answer}
use Rattle.std.specs.Cmp.{signed_Decides}
use Rattle.std.specs.Ordering.{int_cmp, nat_cmp, ordering_then, ordering_reverse}
use Rattle.std.specs.Cmp.Lexicographic.{slice_cmp}
use Rattle.std.proofs.lemmas.Map.Text.{is_eq-slice_cmp}
use Rattle.std.proofs.lemmas.Bool.Decides.{Decides-eqb}
use Rattle.std.proofs.lemmas.Slice.Eq.{bytes_eq-Decides}
use Rattle.sqlite_value.specs.declared.value.Value.TheVariants.{Int}
use Rattle.sqlite_value.specs.Order.{Row, column}
use Rattle.sqlite_value.specs.Keys.{plain, entry_cmp, prefix_cmp}
use Rattle.sqlite_value.proofs.KeyLemmas.{entry_cmp_total, first_key-plain}
use Rattle.sqlite_value.proofs.OrderLemmas.{value_cmp-Int, value_cmp-Blob, then-Equal}
use Rattle.sqlite_trees.specs.Tree.{insert_entry}
use Rattle.sqlite_trees.proofs.TreeLemmas.{prefix_cmp_follows}
use Rattle.book_keys.specs.Keys.{entry, first_with, has_key, key, same_key, with_place, IsFoundIn, IsIndexOf, Places}

-- ---- whether an entry has a key

is_eq-then : (o p : Ordering) → is_eq (ordering_then o p) ≡ (is_eq o && is_eq p)
is_eq-then Less p = refl
is_eq-then Equal p = refl
is_eq-then Greater p = refl

pos_same : (m n : ℕ) → pos m ≡ pos n → m ≡ n
pos_same m n e = cc

numbers_decide : (m n : ℕ) → Decides (is_eq (int_cmp (pos m) (pos n))) (m ≡ n)
numbers_decide m n = (λ has. pos_same m n ((signed_Decides (pos m) (pos n)).0 has), λ same. (signed_Decides (pos m) (pos n)).1 (ap pos same))

same_numbers : (m n : ℕ) → is_eq (int_cmp (pos m) (pos n)) ≡ (m == n)
same_numbers m n = one_answer _ _ (numbers_decide m n) (Decides-eqb m n)

has_key_of : (session session' : List ℕ) (number number' place : ℕ) → has_key (key session' number') (entry session number place) ≡ same_key session number session' number'
has_key_of session session' number number' place =
    let texts = slice_cmp nat_cmp session session' in
    let numbers = int_cmp (pos number) (pos number') in
    rw (first_key-plain, value_cmp-Blob session session', value_cmp-Int (pos number) (pos number'))
    (is_eq-then texts (ordering_then numbers Equal) ∙ ap (λ (o : Ordering). is_eq texts && is_eq o) (then-Equal numbers)
    ∙ ap (λ (b : Bool). b && is_eq numbers) (is_eq-slice_cmp session session') ∙ ap (λ (b : Bool). bytes_eq session session' && b) (same_numbers number number'))

both : (a b : Bool) → (a && b) ≡ true → (a ≡ true) × (b ≡ true)
both true b h = (refl, h)
both false b h = absurd (true≢false (sym h))

same_keys : (session session' : List ℕ) (number number' : ℕ) → same_key session number session' number' ≡ true → (session ≡ session') × (number ≡ number')
same_keys session session' number number' h =
    let parts = both (bytes_eq session session') (number == number') h in
    ((bytes_eq-Decides session session').0 parts.0, (Decides-eqb number number').0 parts.1)

-- ---- an entry more

-- two that tie compare alike with a key
tied : (sought e new : Row) → entry_cmp plain e new ≡ Equal → has_key sought new ≡ true → has_key sought e ≡ true
tied sought e new t has = go (prefix_cmp plain e sought) (prefix_cmp plain new sought) refl refl has
  where
    back : entry_cmp plain new e ≡ Equal
    back = (entry_cmp_total plain).antisymm new e ∙ ap ordering_reverse t

    go : (o p : Ordering) → prefix_cmp plain e sought ≡ o → prefix_cmp plain new sought ≡ p → is_eq (prefix_cmp plain new sought) ≡ true → is_eq (prefix_cmp plain e sought) ≡ true
    go Equal p a b has = ap is_eq a
    go Less p a b has =
        let below = (prefix_cmp_follows plain sought new e (ap is_gt back)).0 (ap is_lt a) in
        absurd (not_both (prefix_cmp plain new sought) has below)
      where
        not_both : (o : Ordering) → is_eq o ≡ true → is_lt o ≡ true → ⊥
        not_both Less h k = true≢false (sym h)
        not_both Equal h k = true≢false (sym k)
        not_both Greater h k = true≢false (sym h)
    go Greater p a b has =
        let above = (prefix_cmp_follows plain sought e new (ap is_gt t)).1 (ap is_gt a) in
        absurd (not_both (prefix_cmp plain new sought) has above)
      where
        not_both : (o : Ordering) → is_eq o ≡ true → is_gt o ≡ true → ⊥
        not_both Less h k = true≢false (sym h)
        not_both Equal h k = true≢false (sym k)
        not_both Greater h k = true≢false (sym h)

-- another key finds what it found
other_key : (sought new : Row) (es : List Row) → has_key sought new ≡ false → first_with sought (insert_entry plain new es) ≡ first_with sought es
other_key sought new [] lacks = rw lacks refl
other_key sought new (e ∷ es) lacks = go (entry_cmp plain e new) refl (other_key sought new es lacks)
  where
    go : (o : Ordering) → entry_cmp plain e new ≡ o → first_with sought (insert_entry plain new es) ≡ first_with sought es → first_with sought (insert_entry plain new (e ∷ es)) ≡ first_with sought (e ∷ es)
    go Less t more = rw (t, more) refl
    go Equal t more = rw t refl
    go Greater t more = rw (t, lacks) refl

none_behind : (sought e : Row) (es : List Row) → first_with sought (e ∷ es) ≡ None → (has_key sought e ≡ false) × (first_with sought es ≡ None)
none_behind sought e es h = go (has_key sought e) refl h
  where
    go : (b : Bool) → has_key sought e ≡ b → first_with sought (e ∷ es) ≡ None → (has_key sought e ≡ false) × (first_with sought es ≡ None)
    go false t h = (t, (let P : Bool → Type 0 = λ b. (if b then Some e else first_with sought es) ≡ None in subst P t h))
    go true t h = let found : Some e ≡ None = (let P : Bool → Type 0 = λ b. (if b then Some e else first_with sought es) ≡ None in subst P t h) in cc

-- a key that nobody had finds the new entry
new_key : (sought new : Row) (es : List Row) → has_key sought new ≡ true → first_with sought es ≡ None → first_with sought (insert_entry plain new es) ≡ Some new
new_key sought new [] has none = rw has refl
new_key sought new (e ∷ es) has none = go (entry_cmp plain e new) refl (none_behind sought e es none) (new_key sought new es has (none_behind sought e es none).1)
  where
    go : (o : Ordering) → entry_cmp plain e new ≡ o → (has_key sought e ≡ false) × (first_with sought es ≡ None) → first_with sought (insert_entry plain new es) ≡ Some new → first_with sought (insert_entry plain new (e ∷ es)) ≡ Some new
    go Less t apart more = rw (t, apart.0) more
    go Equal t apart more = absurd (true≢false (sym (tied sought e new t has) ∙ apart.0))
    go Greater t apart more = rw (t, has) refl

-- an index of a book is that of the book with a request more, whose key nobody had
pub stays_index : (index : List Row) (places : Places) (session : List ℕ) (number place : ℕ) → IsIndexOf index places → places session number ≡ None
    → IsIndexOf (insert_entry plain (entry session number place) index) (with_place places session number place)
stays_index index places session number place is free session' number' = go (same_key session number session' number') refl
  where
    new : Row
    new = entry session number place

    go : (b : Bool) → same_key session number session' number' ≡ b
        → first_with (key session' number') (insert_entry plain new index) ≡ option_map (entry session' number') (with_place places session number place session' number')
    go false t = rw t (other_key (key session' number') new index (has_key_of session session' number number' place ∙ t) ∙ is session' number')
    go true t =
        let same = same_keys session session' number number' t in
        let free' : places session' number' ≡ None = subst (λ (s : List ℕ). places s number' ≡ None) same.0 (subst (λ (n : ℕ). places session n ≡ None) same.1 free) in
        let none : first_with (key session' number') index ≡ None = is session' number' ∙ ap (option_map (entry session' number')) free' in
        let found = new_key (key session' number') new index (has_key_of session session' number number' place ∙ t) none in
        rw t (found ∙ ap Some (ap (λ (s : List ℕ). entry s number place) same.0 ∙ ap (λ (n : ℕ). entry session' n place) same.1))

-- what a look-up in an index of a book finds is the place of the key there
pub found_is_place : (index : List Row) (places : Places) (session : List ℕ) (number : ℕ) (found : Option ℕ) → IsIndexOf index places → IsFoundIn index (key session number) found → found ≡ places session number
found_is_place index places session number found is finds = go (places session number) found (is session number) finds
  where
    go : (place found : Option ℕ) → first_with (key session number) index ≡ option_map (entry session number) place → IsFoundIn index (key session number) found → found ≡ place
    go None None h finds = refl
    go None (Some p) h finds = let clash : Some finds.0 ≡ None = sym finds.1 ∙ h in cc
    go (Some q) None h finds = let clash : None ≡ Some (entry session number q) = sym finds ∙ h in cc
    go (Some q) (Some p) h finds =
        let same : Some finds.0 ≡ Some (entry session number q) = sym finds.1 ∙ h in
        let e : finds.0 ≡ entry session number q = cc in
        let places : Int (pos p) ≡ Int (pos q) = sym finds.2 ∙ ap (λ (row : Row). column row 2) e in
        cc
