-- What an identifier finds among the rows of a slab by an index, and what a row more, less or changed leaves of the two.
use Rattle.std.proofs.Common.{◌≡◌, ◌≢◌, ℕ, zero, suc, ◌+◌, ◌<◌, ◌==◌, Bool, true, false, cond, List, [], ◌∷◌, ◌++◌, length, take, drop, get_or, set, replicate, Option, Some, None, option_map, is_some, IfSome, inl, inr, refl, ap, sym, subst, ◌∙◌, arith, drop-cons}
use Rattle.std.specs.List.{find, count_by}
use Rattle.std.proofs.lemmas.Bool.{cases_eq, eq-eqb, eqb-true}
use Rattle.std.proofs.lemmas.List.{take-append-drop, set_split, get_or-set_same, get_or-set_other, length-set}
use Rattle.std.proofs.lemmas.List.Sums.{sum_by-set}
use Rattle.std.proofs.lemmas.List.Elements.{filter_map-append}
use Rattle.std.proofs.lemmas.Nat.{mod_below}
use Rattle.slab.specs.Slab.{Slab, get, slab_len, with_value, ContainsKey, Updates}
use Rattle.slab.proofs.SlabLemmas.{ContainsKey-within, Updates-with_value}
use Rattle.dia_base.specs.declared.number.ConnId.{ConnId}
use Rattle.relay_hops.specs.declared.row.Held.{Held}
use Rattle.relay_hops.specs.declared.row.Row.{Row}
use Rattle.relay_hops.specs.declared.places.Places.{Places}
use Rattle.relay_hops.specs.Identifiers.{place_of, key_in, is_taken}
use Rattle.relay_hops.specs.PendingTable.{hop_of, has_key, IsMap, held_at, IsWith, IsMoved, resent}
use Rattle.relay_hops.specs.PlaceTable.{rows_at, rows_of, key_at, if_key, row_under, row_at, IsFilled, AreIndexed, IsIndexed}
use Rattle.dia_base.proofs.Counting.{one, count-cons, none_counted}
use Rattle.relay_hops.proofs.Rows.{its_key}
use Rattle.relay_hops.proofs.Keyed.{HaveKeys, PassWith, NonePasses, single, found_at, if_passes, none_pass, none_any_pass, one_passes}

-- ---- what an identifier finds

-- the key that an index has for a row
key_of : List (Option ℕ) → Row → Option ℕ
key_of keys row = key_in keys (hop_of row)

have_keys : (slots : List (Option Row)) (keys : List (Option ℕ)) → AreIndexed slots keys → HaveKeys (key_of keys) 0 slots
unfolding key_of
have_keys slots keys s at row e = let same : at ≡ 0 + at = omega arith in s.indexed at row e ∙ ap (λ (n : ℕ). Some n) same

pass_with : (keys : List (Option ℕ)) (conn : ConnId) (hop : ℕ) → PassWith (key_of keys) (has_key conn hop) (key_in keys hop)
unfolding key_of
pass_with keys conn hop row e = ap (key_in keys) (its_key conn hop row e).1

pub IsMap-indexed : (slots : List (Option Row)) (keys : List (Option ℕ)) → AreIndexed slots keys → IsMap (rows_at slots)
IsMap-indexed slots keys s = record { single = λ conn hop. single (key_of keys) (has_key conn hop) (key_in keys hop) 0 slots (have_keys slots keys s) (pass_with keys conn hop) }

same_key : (conn : ConnId) (hop : ℕ) (slot : Option Row) → if_passes (has_key conn hop) slot ≡ if_key conn hop slot
same_key conn hop None = refl
same_key conn hop (Some row) = refl

-- no row passes a test whose rows have no key
unkeyed : (slots : List (Option Row)) (keys : List (Option ℕ)) (test : Row → Bool) → AreIndexed slots keys → ((row : Row) → test row ≡ true → key_in keys (hop_of row) ≡ None) → NonePasses test slots
unkeyed slots keys test s none at row e f = let here = s.indexed at row e in let no = none row f in absurd (let both : Some at ≡ None = sym here ∙ no in cc)

found : (p : Places) (conn : ConnId) (hop : ℕ) (key : Option ℕ) → IsIndexed p → key_at p.index hop ≡ key → find (has_key conn hop) (rows_of p) ≡ row_under p conn hop key
found p conn hop None s e =
    none_counted (has_key conn hop) (rows_of p)
    (none_pass (has_key conn hop) p.slab.slots (unkeyed p.slab.slots p.index.keys.items (has_key conn hop) s (λ row f. ap (key_in p.index.keys.items) (its_key conn hop row f).1 ∙ e)))
found p conn hop (Some key) s e =
    let same : key ≡ 0 + key = omega arith in
    found_at (key_of p.index.keys.items) (has_key conn hop) (key_in p.index.keys.items hop) 0 key p.slab.slots (have_keys p.slab.slots p.index.keys.items s) (pass_with p.index.keys.items conn hop) (e ∙ ap (λ (n : ℕ). Some n) same)
    ∙ same_key conn hop (get p.slab key)

abbrev held : Option Row → Option Held
held o = option_map (λ row. row.held) o

pub held-row : (p : Places) (conn : ConnId) (hop : ℕ) → IsIndexed p → held_at (rows_of p) conn hop ≡ held (row_at p conn hop)
held-row p conn hop s = ap held (found p conn hop (key_at p.index hop) s refl)

-- a place is taken where the index has a key there
pub taken-key : (slots : List (Option Row)) (keys : List (Option ℕ)) (hop : ℕ) → AreIndexed slots keys → is_taken (length keys) (rows_at slots) hop ≡ is_some (key_in keys hop)
taken-key slots keys hop s = by_key (key_in keys hop) refl
  where
    test : Row → Bool
    test row = place_of (length keys) (hop_of row) == place_of (length keys) hop

    by_key : (key : Option ℕ) → key_in keys hop ≡ key → is_taken (length keys) (rows_at slots) hop ≡ is_some key
    by_key None e = none_any_pass test slots (unkeyed slots keys test s (λ row f. ap (λ n. get_or keys n None) (eqb-true _ _ f) ∙ e))
    by_key (Some key) e =
        let filled = s.filled (place_of (length keys) hop) key e in
        one_passes test slots key filled.row filled.there (eq-eqb _ _ filled.place)

-- ---- the rows of slots

pub within : (slots : List (Option Row)) (key : ℕ) (row : Row) → get_or slots key None ≡ Some row → key < length slots
within [] key row e = absurd cc
within (slot ∷ slots) zero row e = omega arith
within (slot ∷ slots) (suc key) row e = let lt = within slots key row e in omega arith

parts : (slots : List (Option Row)) (key : ℕ) → key < length slots → slots ≡ take key slots ++ get_or slots key None ∷ drop (suc key) slots
parts slots key lt = sym (take-append-drop key slots) ∙ ap (λ (ps : List (Option Row)). take key slots ++ ps) (drop-cons slots key None lt)

front_row : (slot : Option Row) (slots : List (Option Row)) (row : Row) → slot ≡ Some row → rows_at (slot ∷ slots) ≡ row ∷ rows_at slots
front_row None slots row e = absurd cc
front_row (Some other) slots row e = let same : other ≡ row = cc in ap (λ (r : Row). r ∷ rows_at slots) same

one_less : (before after : List (Option Row)) (slot : Option Row) (row : Row) → slot ≡ Some row → IsWith row (rows_at (before ++ None ∷ after)) (rows_at (before ++ slot ∷ after))
one_less before after slot row e = record {
  before = rows_at before;
  after = rows_at after;
  without = filter_map-append (λ s. s) before (None ∷ after);
  whole = filter_map-append (λ s. s) before (slot ∷ after) ∙ ap (λ (rows : List Row). rows_at before ++ rows) (front_row slot after row e);
}

without_set : (slots : List (Option Row)) (key : ℕ) (row : Row) → get_or slots key None ≡ Some row → IsWith row (rows_at (set slots key None)) (rows_at slots)
without_set slots key row e =
    let lt = within slots key row e in
    subst (λ (ps : List (Option Row)). IsWith row (rows_at (set slots key None)) (rows_at ps)) (sym (parts slots key lt))
    (subst (λ (ps : List (Option Row)). IsWith row (rows_at ps) (rows_at (take key slots ++ get_or slots key None ∷ drop (suc key) slots))) (sym (set_split slots key None lt))
    (one_less (take key slots) (drop (suc key) slots) (get_or slots key None) row e))

same_front : (slot other : Option Row) (slots others : List (Option Row)) → other ≡ slot → rows_at others ≡ rows_at slots → rows_at (other ∷ others) ≡ rows_at (slot ∷ slots)
same_front None None slots others e rest = rest
same_front None (Some row) slots others e rest = absurd cc
same_front (Some row) None slots others e rest = absurd cc
same_front (Some row) (Some other) slots others e rest = let same : other ≡ row = cc in ap (λ (r : Row). r ∷ rows_at others) same ∙ ap (λ (rows : List Row). row ∷ rows) rest

no_front : (slot : Option Row) (slots : List (Option Row)) → slot ≡ None → rows_at slots ≡ [] → rows_at (slot ∷ slots) ≡ []
no_front None slots e rest = rest
no_front (Some row) slots e rest = absurd cc

no_rows : (slots : List (Option Row)) → ((at : ℕ) → get_or slots at None ≡ None) → rows_at slots ≡ []
no_rows [] none = refl
no_rows (slot ∷ slots) none = no_front slot slots (none 0) (no_rows slots (λ at. none (suc at)))

-- the same row in each slot
pub same_rows : (slots others : List (Option Row)) → ((at : ℕ) → get_or others at None ≡ get_or slots at None) → rows_at others ≡ rows_at slots
same_rows [] others same = no_rows others same
same_rows (slot ∷ slots) [] same = sym (no_rows (slot ∷ slots) (λ at. sym (same at)))
same_rows (slot ∷ slots) (other ∷ others) same = same_front slot other slots others (same 0) (same_rows slots others (λ at. same (suc at)))

-- ---- one key of a slab changes

-- one row is at the key in the slab with it, none in the one without it, and all other keys have the same
pub one_more : (few many : Slab Row) (key : ℕ) (row : Row) → get few key ≡ None → get many key ≡ Some row
    → ((at : ℕ) → (at ≢ key) → get few at ≡ get many at) → IsWith row (rows_at few.slots) (rows_at many.slots)
one_more few many key row none some others =
    subst (λ (rows : List Row). IsWith row rows (rows_at many.slots)) (sym (same_rows (set many.slots key None) few.slots same)) (without_set many.slots key row some)
  where
    same : (at : ℕ) → get few at ≡ get_or (set many.slots key None) at None
    same at = elim (cases_eq at key) [
      | inl is ↦ ap (get few) is ∙ none ∙ sym (ap (λ n. get_or (set many.slots key None) n None) is ∙ get_or-set_same many.slots key None None (within many.slots key row some))
      | inr ne ↦ others at ne ∙ sym (get_or-set_other many.slots key at None None ne)
    ]

pub row_put : (old new : Slab Row) (key : ℕ) (row : Row) → get old key ≡ None → Updates old new key (Some row) → IsWith row (rows_at old.slots) (rows_at new.slots)
row_put old new key row free u = one_more old new key row free u.changed (λ at ne. sym (u.others at ne))

pub row_out : (old new : Slab Row) (key : ℕ) (row : Row) → get old key ≡ Some row → Updates old new key None → IsWith row (rows_at new.slots) (rows_at old.slots)
row_out old new key row there u = one_more new old key row u.changed there u.others

-- what is taken out of a key
pub taken_out : (old new : Slab Row) (key : ℕ) (slot : Option Row) → get old key ≡ slot → Updates old new key None → IfSome slot (λ row. IsWith row (rows_at new.slots) (rows_at old.slots))
taken_out old new key None e u = tt
taken_out old new key (Some row) e u = row_out old new key row e u

-- a row becomes another one under its key
pub row_moved : (old new : Slab Row) (key : ℕ) (row other : Row) → get old key ≡ Some row → Updates old new key (Some other) → IsMoved row other (rows_at old.slots) (rows_at new.slots)
row_moved old new key row other there u =
    let lt = within old.slots key row there in
    let gone = get_or-set_same old.slots key None None lt in
    record {
      rest = rows_at (set old.slots key None);
      was = without_set old.slots key row there;
      is = one_more (record old { slots = set old.slots key None }) new key other gone u.changed
          (λ at ne. get_or-set_other old.slots key at None None ne ∙ sym (u.others at ne));
    }

-- ---- one place of an index changes

some_place : (keys : List (Option ℕ)) (hop : ℕ) → 0 < length keys → place_of (length keys) hop < length keys
some_place keys hop some = mod_below hop (length keys) some

set-length : (keys : List (Option ℕ)) (hop other : ℕ) (slot : Option ℕ) → key_in (set keys (place_of (length keys) hop) slot) other ≡ get_or (set keys (place_of (length keys) hop) slot) (place_of (length keys) other) None
set-length keys hop other slot = ap (λ size. get_or (set keys (place_of (length keys) hop) slot) (place_of size other) None) (length-set keys (place_of (length keys) hop) slot)

key_in-same : (keys : List (Option ℕ)) (hop other : ℕ) (slot : Option ℕ) → 0 < length keys → place_of (length keys) other ≡ place_of (length keys) hop → key_in (set keys (place_of (length keys) hop) slot) other ≡ slot
key_in-same keys hop other slot some e =
    set-length keys hop other slot ∙ ap (λ n. get_or (set keys (place_of (length keys) hop) slot) n None) e
    ∙ get_or-set_same keys (place_of (length keys) hop) slot None (some_place keys hop some)

key_in-other : (keys : List (Option ℕ)) (hop other : ℕ) (slot : Option ℕ) → (place_of (length keys) other ≢ place_of (length keys) hop) → key_in (set keys (place_of (length keys) hop) slot) other ≡ key_in keys other
key_in-other keys hop other slot ne = set-length keys hop other slot ∙ get_or-set_other keys (place_of (length keys) hop) (place_of (length keys) other) slot None ne

as_filled : (slots others : List (Option Row)) (size at key : ℕ) → IsFilled slots size at key → ((row : Row) → get_or slots key None ≡ Some row → get_or others key None ≡ Some row) → IsFilled others size at key
as_filled slots others size at key f same = record { row = f.row; there = same f.row f.there; place = f.place }

-- a row more, under a key and at a place that no row had
pub indexed_put : (old new : Slab Row) (keys : List (Option ℕ)) (key : ℕ) (row : Row) → 0 < length keys → AreIndexed old.slots keys → key_in keys (hop_of row) ≡ None → get old key ≡ None
    → Updates old new key (Some row) → slab_len new ≡ slab_len old + 1 → AreIndexed new.slots (set keys (place_of (length keys) (hop_of row)) (Some key))
indexed_put old new keys key row some s none free u many = record {
  indexed = λ other r e. elim (cases_eq other key) [
    | inl is ↦
        let same : row ≡ r = let a = sym u.changed ∙ sym (ap (get new) is) ∙ e in cc in
        key_in-same keys (hop_of row) (hop_of r) (Some key) some (ap (λ (x : Row). place_of (length keys) (hop_of x)) (sym same)) ∙ ap (λ (n : ℕ). Some n) (sym is)
    | inr ne ↦
        let was = s.indexed other r (sym (u.others other ne) ∙ e) in
        key_in-other keys (hop_of row) (hop_of r) (Some key) (λ same. absurd (let both : Some other ≡ None = sym was ∙ ap (λ n. get_or keys n None) same ∙ none in cc)) ∙ was
  ];
  filled = λ at other e. subst (λ size. IsFilled new.slots size at other) (sym (length-set keys (place_of (length keys) (hop_of row)) (Some key))) (elim (cases_eq at (place_of (length keys) (hop_of row))) [
    | inl is ↦
        let same : Some key ≡ Some other = sym (get_or-set_same keys (place_of (length keys) (hop_of row)) (Some key) None (some_place keys (hop_of row) some)) ∙ sym (ap (λ n. get_or (set keys (place_of (length keys) (hop_of row)) (Some key)) n None) is) ∙ e in
        let key_is : key ≡ other = cc in
        record { row = row; there = ap (get new) (sym key_is) ∙ u.changed; place = sym is }
    | inr ne ↦
        let was = s.filled at other (sym (get_or-set_other keys (place_of (length keys) (hop_of row)) at (Some key) None ne) ∙ e) in
        as_filled old.slots new.slots (length keys) at other was (λ r there. u.others other (λ same. absurd (let both : Some r ≡ None = sym there ∙ ap (get old) same ∙ free in cc)) ∙ there)
  ]);
  many =
      let was : one (is_some (get_or keys (place_of (length keys) (hop_of row)) None)) ≡ 0 = ap (λ o. one (is_some o)) none in
      let sums = sum_by-set (λ o. one (is_some o)) keys (place_of (length keys) (hop_of row)) (Some key) None (some_place keys (hop_of row) some) in
      omega (arith, s.many);
}

-- a row less
pub indexed_out : (old new : Slab Row) (keys : List (Option ℕ)) (key hop : ℕ) (row : Row) → 0 < length keys → AreIndexed old.slots keys → key_in keys hop ≡ Some key → get old key ≡ Some row
    → Updates old new key None → slab_len new + 1 ≡ slab_len old → AreIndexed new.slots (set keys (place_of (length keys) hop) None)
indexed_out old new keys key hop row some s there found u many = record {
  indexed = λ other r e. elim (cases_eq other key) [
    | inl is ↦ absurd (let both : None ≡ Some r = sym u.changed ∙ sym (ap (get new) is) ∙ e in cc)
    | inr ne ↦
        let was = s.indexed other r (sym (u.others other ne) ∙ e) in
        key_in-other keys hop (hop_of r) None (λ same. absurd (let both : Some other ≡ Some key = sym was ∙ ap (λ n. get_or keys n None) same ∙ there in ne cc)) ∙ was
  ];
  filled = λ at other e. subst (λ size. IsFilled new.slots size at other) (sym (length-set keys (place_of (length keys) hop) None)) (elim (cases_eq at (place_of (length keys) hop)) [
    | inl is ↦
        absurd (let both : None ≡ Some other = sym (get_or-set_same keys (place_of (length keys) hop) None None (some_place keys hop some)) ∙ sym (ap (λ n. get_or (set keys (place_of (length keys) hop) None) n None) is) ∙ e in cc)
    | inr ne ↦
        let was = s.filled at other (sym (get_or-set_other keys (place_of (length keys) hop) at None None ne) ∙ e) in
        let own = s.filled (place_of (length keys) hop) key there in
        as_filled old.slots new.slots (length keys) at other was (λ r here. u.others other (λ same. ne (apart r own same was here)) ∙ here)
  ]);
  many =
      let was : one (is_some (get_or keys (place_of (length keys) hop) None)) ≡ 1 = ap (λ o. one (is_some o)) there in
      let sums = sum_by-set (λ o. one (is_some o)) keys (place_of (length keys) hop) None None (some_place keys hop some) in
      omega (arith, s.many);
}
  where
    apart : {at other : ℕ} (r : Row) → IsFilled old.slots (length keys) (place_of (length keys) hop) key → other ≡ key → IsFilled old.slots (length keys) at other → get old other ≡ Some r → at ≡ place_of (length keys) hop
    apart r own same was here =
        let rows : Some was.row ≡ Some own.row = sym was.there ∙ ap (get old) same ∙ own.there in
        let row_is : was.row ≡ own.row = cc in
        sym was.place ∙ ap (λ (x : Row). place_of (length keys) (hop_of x)) row_is ∙ own.place

-- rows that keep their identifiers
pub indexed_kept : (slots others : List (Option Row)) (keys : List (Option ℕ)) → AreIndexed slots keys
    → ((key : ℕ) (row : Row) → get_or others key None ≡ Some row → (r : Row) × (get_or slots key None ≡ Some r) × (hop_of r ≡ hop_of row))
    → ((key : ℕ) (row : Row) → get_or slots key None ≡ Some row → (r : Row) × (get_or others key None ≡ Some r) × (hop_of r ≡ hop_of row))
    → count_by is_some others ≡ count_by is_some slots → AreIndexed others keys
indexed_kept slots others keys s back forth many = record {
  indexed = λ key row e. let was = back key row e in ap (key_in keys) (sym was.2) ∙ s.indexed key was.0 was.1;
  filled = λ at key e.
      let was = s.filled at key e in
      let is = forth key was.row was.there in
      record { row = is.0; there = is.1; place = ap (place_of (length keys)) is.2 ∙ was.place };
  many = s.many ∙ sym many;
}

pub indexed_none : (keys : List (Option ℕ)) (size : ℕ) → keys ≡ replicate size None → AreIndexed [] keys
indexed_none keys size e = subst (λ ks. AreIndexed [] ks) (sym e) (record {
  indexed = λ key row h. absurd cc;
  filled = λ at key h. absurd (let both : None ≡ Some key = sym (get_none size at) ∙ h in cc);
  many = count_none size;
})
  where
    get_none : (size at : ℕ) → get_or (replicate {A = Option ℕ} size None) at None ≡ None
    get_none zero at = refl
    get_none (suc size) zero = refl
    get_none (suc size) (suc at) = get_none size at

    count_none : (size : ℕ) → count_by is_some (replicate {A = Option ℕ} size None) ≡ 0
    count_none zero = refl
    count_none (suc size) = omega (arith, count-cons is_some None (replicate {A = Option ℕ} size None), count_none size)

-- ---- a request that goes out again on another connection

if_there : (b : Bool) (row : Row) (P : Row → Type 0) → P row → IfSome (cond b (Some row) None) P
if_there true row P x = x
if_there false row P x = tt

pub moved_elsewhere : (slab : Slab Row) (conn to : ConnId) (hop key : ℕ) (row : Row) → get slab key ≡ Some row
    → IfSome (if_key conn hop (Some row)) (λ r. IsMoved r (resent to hop r) (rows_at slab.slots) (rows_at (with_value slab key (resent to hop row)).slots))
moved_elsewhere slab conn to hop key row there =
    if_there (has_key conn hop row) row (λ r. IsMoved r (resent to hop r) (rows_at slab.slots) (rows_at (with_value slab key (resent to hop row)).slots))
    (row_moved slab (with_value slab key (resent to hop row)) key row (resent to hop row) there (Updates-with_value slab key (resent to hop row) (ap is_some there)))

pub its_hop : (conn : ConnId) (hop : ℕ) (row : Row) → is_some (if_key conn hop (Some row)) ≡ true → hop_of row ≡ hop
its_hop conn hop row e = (its_key conn hop row (passes (has_key conn hop row) e)).1
  where
    passes : (b : Bool) → is_some (cond b (Some row) None) ≡ true → b ≡ true
    passes true e = refl
    passes false e = e

pub slab_elsewhere : (slab : Slab Row) (keys : List (Option ℕ)) (to : ConnId) (key : ℕ) (row : Row) → AreIndexed slab.slots keys → get slab key ≡ Some row
    → AreIndexed (with_value slab key (resent to (hop_of row) row)).slots keys
slab_elsewhere slab keys to key row s there = indexed_kept slab.slots new.slots keys s back forth (len-with_value slab key (resent to (hop_of row) row) (ap is_some there))
  where
    new : Slab Row
    new = with_value slab key (resent to (hop_of row) row)

    u : Updates slab new key (Some (resent to (hop_of row) row))
    u = Updates-with_value slab key (resent to (hop_of row) row) (ap is_some there)

    back : (other : ℕ) (r : Row) → get_or new.slots other None ≡ Some r → (x : Row) × (get_or slab.slots other None ≡ Some x) × (hop_of x ≡ hop_of r)
    back other r e = elim (cases_eq other key) [
      | inl is ↦
          let same : resent to (hop_of row) row ≡ r = let a = sym u.changed ∙ sym (ap (get new) is) ∙ e in cc in
          (row, ap (get slab) is ∙ there, ap hop_of same)
      | inr ne ↦ (r, sym (u.others other ne) ∙ e, refl)
    ]

    forth : (other : ℕ) (r : Row) → get_or slab.slots other None ≡ Some r → (x : Row) × (get_or new.slots other None ≡ Some x) × (hop_of x ≡ hop_of r)
    forth other r e = elim (cases_eq other key) [
      | inl is ↦
          let same : row ≡ r = let a = sym there ∙ sym (ap (get slab) is) ∙ e in cc in
          (resent to (hop_of row) row, ap (get new) is ∙ u.changed, ap hop_of same)
      | inr ne ↦ (r, u.others other ne ∙ e, refl)
    ]

    len-with_value : {T : Type 0} (s : Slab T) (k : ℕ) (value : T) → ContainsKey s k → slab_len (with_value s k value) ≡ slab_len s
    len-with_value s k value present =
        let lt = ContainsKey-within s k present in
        let here : one (is_some (get s k)) ≡ 1 = ap one present in
        omega (arith, sum_by-set (λ o. one (is_some o)) s.slots k (Some value) None lt, here)
