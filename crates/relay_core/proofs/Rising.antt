-- The identifiers of a run come back late: the run is seen as one that gives numbers, which never begin again.
use Rattle.std.proofs.Common.{◌≡◌, ℕ, suc, ◌+◌, ◌*◌, ◌/◌, ◌%◌, ◌<◌, ◌≤◌, ◌||◌, ◌==◌, inl, inr, Bool, true, false, cond, List, [], ◌∷◌, ◌++◌, map, length, refl, ap, sym, subst, ◌∙◌, arith, append_assoc}
use Rattle.std.specs.List.{list_any, AllByRecursion}
use Rattle.std.proofs.lemmas.List.{length-map}
use Rattle.std.proofs.Math.Nat.{div-add-mod, mul-add-mod_self_left, mod-eq_of_lt}
use Rattle.std.proofs.lemmas.Nat.{mod_below}
use Rattle.std.proofs.lemmas.Bool.{eq-eqb, eqb-true, or_cases}
use Rattle.std.proofs.lemmas.List.Folds.{list_any-append}
use Rattle.std.proofs.lemmas.List.Sums.{sum_by-append, count_by-le-length}
use Rattle.dia_base.proofs.Counting.{one, one-le, count-cons}
use Rattle.dia_base.specs.declared.number.ConnId.{ConnId}
use Rattle.dia_message.specs.declared.message.Message.{Message}
use Rattle.dia_message.specs.declared.message.Out.{Out}
use Rattle.dia_message.specs.Traffic.{Traffic}
use Rattle.relay_hops.specs.declared.row.Row.{Row}
use Rattle.relay_hops.specs.Identifiers.{identifier_of, place_of, places_for, is_taken, IsGiven}
use Rattle.relay_hops.specs.PendingTable.{PendingTable, hop_of, IsWith}
use Rattle.relay_hops.proofs.Numbers.{place-identifier}
use Rattle.relay_core.specs.declared.node.RelaySite.{RelaySite}
use Rattle.relay_core.specs.declared.run.RelayEvent.{RelayEvent}
use Rattle.relay_core.specs.declared.run.RelayEvent.TheVariants.{Up, Received, Lost, Restart}
use Rattle.relay_core.specs.Connecting.{relay_at}
use Rattle.relay_core.specs.Giving.{request_hops, has_hop, GivesNone, SendsAgain, GivesOne, none_given, one_given, GivesAt, GiveInTurn, new_hops, given_in, ComesBackLate, HaveHighestBit, GivesRising}
use Rattle.relay_core.specs.RelayRun.{IsRun, not_begun, one_more, RelayStep}
use Rattle.relay_core.specs.RelayState.{RelayState}
use Rattle.relay_core.proofs.Laps.{is_within, within-parts, lap_apart, has_place, given_within, LosesFew, loses-less, loses-more, AddsPlace, whole_laps}

-- ---- numbers and identifiers

-- a number that has begun again is the same identifier
number-left : (count k : ℕ) → (count % 2147483648 + k) % 2147483648 ≡ (count + k) % 2147483648
number-left count k =
    let parts = div-add-mod count 2147483648 in
    let whole : 2147483648 * (count / 2147483648) + (count % 2147483648 + k) ≡ count + k = omega arith in
    sym (mul-add-mod_self_left 2147483648 (count / 2147483648) (count % 2147483648 + k)) ∙ ap (λ n. n % 2147483648) whole

same_identifier : (count next k : ℕ) → next ≡ count % 2147483648 → identifier_of (next + k) ≡ identifier_of (count + k)
same_identifier count next k e = ap (λ n. identifier_of (n + k)) e ∙ ap (λ n. 2147483648 + n) (number-left count k)

-- two numbers of one identifier are 2^31 apart at least
identifiers_apart : (a b : ℕ) → identifier_of a ≡ identifier_of b → a < b → a + 2147483648 ≤ b
identifiers_apart a b e lt =
    let below_a = mod_below a 2147483648 (omega arith) in
    let below_b = mod_below b 2147483648 (omega arith) in
    lap_apart 2147483648 a b (omega (arith, e)) lt

-- a relay has 2^15 places
places-limit : places_for 16384 ≡ 32768
unfolding places_for
places-limit = refl

place-number : (x : ℕ) → place_of 32768 (identifier_of x) ≡ x % 32768
place-number x = place-identifier 32768 65536 x refl

-- ---- the places of rows

abbrev places_of : List Row → List ℕ
places_of rows = map (λ row. place_of 32768 (hop_of row)) rows

taken-place : (rows : List Row) (x : ℕ) → is_taken 32768 rows (identifier_of x) ≡ has_place 32768 (places_of rows) x
taken-place [] x = refl
taken-place (row ∷ rows) x = ap (λ n. (place_of 32768 (hop_of row) == n) || is_taken 32768 rows (identifier_of x)) (place-number x) ∙ ap (λ b. (place_of 32768 (hop_of row) == x % 32768) || b) (taken-place rows x)

or_right : (b c : Bool) → c ≡ true → (b || c) ≡ true
or_right true c e = refl
or_right false c e = e

or_left : (b c : Bool) → b ≡ true → (b || c) ≡ true
or_left true c e = refl
or_left false c e = absurd cc

-- a place that is taken is that of an identifier in use, and the other way round
place_found : (rows : List Row) (x : ℕ) → has_place 32768 (places_of rows) x ≡ true → (hop : ℕ) × (has_hop rows hop ≡ true) × (place_of 32768 hop ≡ x % 32768)
place_found [] x e = absurd cc
place_found (row ∷ rows) x e = elim (or_cases (place_of 32768 (hop_of row) == x % 32768) (has_place 32768 (places_of rows) x) e) [
  | inl own ↦ (hop_of row, or_left (hop_of row == hop_of row) (has_hop rows (hop_of row)) (eq-eqb (hop_of row) (hop_of row) refl), eqb-true (place_of 32768 (hop_of row)) (x % 32768) own)
  | inr later ↦ let found = place_found rows x later in (found.0, or_right (hop_of row == found.0) (has_hop rows found.0) found.1, found.2)
]

place_taken : (rows : List Row) (hop x : ℕ) → has_hop rows hop ≡ true → place_of 32768 hop ≡ x % 32768 → has_place 32768 (places_of rows) x ≡ true
place_taken [] hop x e is = absurd cc
place_taken (row ∷ rows) hop x e is = elim (or_cases (hop_of row == hop) (has_hop rows hop) e) [
  | inl own ↦ or_left (place_of 32768 (hop_of row) == x % 32768) (has_place 32768 (places_of rows) x) (eq-eqb (place_of 32768 (hop_of row)) (x % 32768) (ap (place_of 32768) (eqb-true (hop_of row) hop own) ∙ is))
  | inr later ↦ or_right (place_of 32768 (hop_of row) == x % 32768) (has_place 32768 (places_of rows) x) (place_taken rows hop x later is)
]

-- a row more has an identifier that was in use, or its own
has-added : (row : Row) (others rows : List Row) (hop : ℕ) → IsWith row others rows → has_hop rows hop ≡ true → (has_hop others hop || (hop_of row == hop)) ≡ true
has-added row others rows hop w e =
    let parts = sym (ap (list_any test) w.whole ∙ list_any-append test w.before (row ∷ w.after)) ∙ e in
    let all = ap (list_any test) w.without ∙ list_any-append test w.before w.after in
    elim (or_cases (list_any test w.before) (list_any test (row ∷ w.after)) parts) [
      | inl before ↦ or_left (has_hop others hop) (hop_of row == hop) (all ∙ or_left (list_any test w.before) (list_any test w.after) before)
      | inr behind ↦ elim (or_cases (hop_of row == hop) (list_any test w.after) behind) [
        | inl own ↦ or_right (has_hop others hop) (hop_of row == hop) own
        | inr after ↦ or_left (has_hop others hop) (hop_of row == hop) (all ∙ or_right (list_any test w.before) (list_any test w.after) after)
      ]
    ]
  where
    test : Row → Bool
    test r = hop_of r == hop

fewer_places : (old new : PendingTable) → GivesNone old new → (x : ℕ) → has_place 32768 (places_of new.rows) x ≡ true → has_place 32768 (places_of old.rows) x ≡ true
fewer_places old new none x e = let found = place_found new.rows x e in place_taken old.rows found.0 x (none.kept found.0 found.1) found.2

place_added : (row : Row) (others rows : List Row) (given : ℕ) → IsWith row others rows → hop_of row ≡ identifier_of given → AddsPlace 32768 given (places_of others) (places_of rows)
place_added row others rows given w is x e =
    let found = place_found rows x e in
    elim (or_cases (has_hop others found.0) (hop_of row == found.0) (has-added row others rows found.0 w found.1)) [
      | inl was ↦ or_left (has_place 32768 (places_of others) x) (given % 32768 == x % 32768) (place_taken others found.0 x was found.2)
      | inr own ↦
          or_right (has_place 32768 (places_of others) x) (given % 32768 == x % 32768)
          (eq-eqb (given % 32768) (x % 32768) (sym (place-number given) ∙ ap (place_of 32768) (sym is ∙ eqb-true (hop_of row) found.0 own) ∙ found.2))
    ]

-- ---- a run

-- each number is above those that were given before it
IsFalling : List ℕ → Type 0
IsFalling [] = Unit {0}
IsFalling (x ∷ xs) = AllByRecursion (λ y. y < x) xs × IsFalling xs

abbrev IsHigh : ℕ → Type 0
IsHigh hop = (2147483648 ≤ hop) × (hop < 4294967296)

-- What a run has given, as numbers, and what may be lost.
pub record Counts (first : ℕ) (past : List RelayStep) (table : PendingTable) : Type 0 where
  numbers : List ℕ
  count : ℕ
  hops : given_in past ≡ map identifier_of numbers
  since : AllByRecursion (λ x. first ≤ x) numbers
  begun : first ≤ count
  below : AllByRecursion (λ x. x < count) numbers
  falls : IsFalling numbers
  next : table.next ≡ count % 2147483648
  limit : table.limit ≡ 16384
  laps : LosesFew 32768 16383 first count (places_of table.rows) numbers
  high : (hop : ℕ) → has_hop table.rows hop ≡ true → IsHigh hop
  highest : HaveHighestBit past

pub begins : (site : RelaySite) (start : ℕ) → Counts (start % 2147483648) [] (relay_at site start).pending
unfolding IsFalling
begins site start =
    let below = mod_below start 2147483648 (omega arith) in
    record {
      numbers = [];
      count = start % 2147483648;
      hops = refl;
      since = tt;
      begun = omega arith;
      below = tt;
      falls = tt;
      next = sym (mod-eq_of_lt below);
      limit = refl;
      laps = record { laps = λ w since lt. absurd (omega arith) };
      high = λ hop e. absurd cc;
      highest = tt;
    }

-- no identifier is given at the event
none_more : (first : ℕ) (past : List RelayStep) (before after : RelayState) (event : RelayEvent) (sent : Traffic) → Counts first past before.pending → new_hops event sent ≡ []
    → GivesNone before.pending after.pending → ((hop : ℕ) → list_any (λ h. h == hop) (request_hops sent) ≡ true → IsHigh hop)
    → Counts first (record { before = before; event = event; sent = sent; after = after } ∷ past) after.pending
none_more first past before after event sent c none gives same = record {
  numbers = c.numbers;
  count = c.count;
  hops = ap (λ (hs : List ℕ). hs ++ given_in past) none ∙ c.hops;
  since = c.since;
  begun = c.begun;
  below = c.below;
  falls = c.falls;
  next = gives.next ∙ c.next;
  limit = gives.limit ∙ c.limit;
  laps = loses-less 32768 16383 first c.count (places_of before.pending.rows) (places_of after.pending.rows) c.numbers (fewer_places before.pending after.pending gives) c.laps;
  high = λ hop e. c.high hop (gives.kept hop e);
  highest = (same, c.highest);
}

high_number : (number : ℕ) → IsHigh (identifier_of number)
high_number number = let below = mod_below number 2147483648 (omega arith) in (omega arith, omega arith)

still_below : (count more : ℕ) (numbers : List ℕ) → count ≤ more → AllByRecursion (λ x. x < count) numbers → AllByRecursion (λ x. x < more) numbers
still_below count more [] le all = tt
still_below count more (x ∷ numbers) le all = let lt = all.0 in (omega arith, still_below count more numbers le all.1)

only_hop : (to : ConnId) (message : Message) → message.header.request ≡ true → request_hops ((to, message) ∷ []) ≡ message.header.hop ∷ []
only_hop to message flag = ap (λ b. cond b (message.header.hop ∷ []) []) flag

one_hop : (hop given : ℕ) → list_any (λ h. h == hop) (given ∷ []) ≡ true → given ≡ hop
one_hop hop given e = elim (or_cases (given == hop) false e) [
  | inl own ↦ eqb-true given hop own
  | inr none ↦ absurd cc
]

-- one is given, to a request that goes out new
one_given_more : (first : ℕ) (past : List RelayStep) (before after : RelayState) (conn to : ConnId) (came message : Message) (row : Row) → Counts first past before.pending
    → message.header.request ≡ true → length before.pending.rows < before.pending.limit → IsGiven before.pending message.header.hop after.pending.next
    → after.pending.limit ≡ before.pending.limit → hop_of row ≡ message.header.hop → IsWith row before.pending.rows after.pending.rows
    → Counts first (record { before = before; event = Received conn came; sent = (to, message) ∷ []; after = after } ∷ past) after.pending
unfolding IsFalling
one_given_more first past before after conn to came message row c flag room g limit own w =
    let number = c.count + g.passed in
    let is : message.header.hop ≡ identifier_of number = g.hop_is ∙ same_identifier c.count before.pending.next g.passed c.next in
    let size : places_for before.pending.limit ≡ 32768 = ap places_for c.limit ∙ places-limit in
    record {
      numbers = number ∷ c.numbers;
      count = number + 1;
      hops = ap (λ (hs : List ℕ). hs ++ given_in past) (only_hop to message flag) ∙ ap (λ (h : ℕ). h ∷ given_in past) is ∙ ap (λ (hs : List ℕ). identifier_of number ∷ hs) c.hops;
      since = (let le = c.begun in omega arith, c.since);
      begun = let le = c.begun in omega arith;
      below = (omega arith, still_below c.count (number + 1) c.numbers (omega arith) c.below);
      falls = (still_below c.count number c.numbers (omega arith) c.below, c.falls);
      next = g.next_is ∙ ap (λ n. (n + g.passed + 1) % 2147483648) c.next ∙ next_number c.count g.passed;
      limit = limit ∙ c.limit;
      laps = loses-more 32768 16383 first c.count g.passed (places_of before.pending.rows) (places_of after.pending.rows) c.numbers
          (let few = length-map before.pending.rows (λ (r : Row). place_of 32768 (hop_of r)) in let le = c.limit in omega arith) c.below
          (λ k lt. sym (taken-place before.pending.rows (c.count + k)) ∙ sym (ap (λ n. is_taken n before.pending.rows (identifier_of (c.count + k))) size)
          ∙ sym (ap (is_taken (places_for before.pending.limit) before.pending.rows) (same_identifier c.count before.pending.next k c.next)) ∙ g.taken k lt)
          (place_added row before.pending.rows after.pending.rows number w (own ∙ is)) c.laps;
      high = λ hop e. elim (or_cases (has_hop before.pending.rows hop) (hop_of row == hop) (has-added row before.pending.rows after.pending.rows hop w e)) [
        | inl was ↦ c.high hop was
        | inr new ↦ subst IsHigh (sym (own ∙ is) ∙ eqb-true (hop_of row) hop new) (high_number number)
      ];
      highest = (
        λ hop e. subst IsHigh (sym is ∙ one_hop hop message.header.hop (sym (ap (list_any (λ h. h == hop)) (only_hop to message flag)) ∙ e)) (high_number number),
        c.highest,
      );
    }
  where
    next_number : (count passed : ℕ) → (count % 2147483648 + passed + 1) % 2147483648 ≡ (count + passed + 1) % 2147483648
    next_number count passed =
        let first_sum : count % 2147483648 + passed + 1 ≡ count % 2147483648 + (passed + 1) = omega arith in
        let last_sum : count + (passed + 1) ≡ count + passed + 1 = omega arith in
        ap (λ n. n % 2147483648) first_sum ∙ number-left count (passed + 1) ∙ ap (λ n. n % 2147483648) last_sum

received_more : (first : ℕ) (past : List RelayStep) (before after : RelayState) (conn : ConnId) (came : Message) (sent : Traffic) (table : PendingTable) → table ≡ after.pending → Counts first past before.pending
    → GivesOne before.pending sent table → Counts first (record { before = before; event = Received conn came; sent = sent; after = after } ∷ past) after.pending
received_more first past before after conn came _ _ same c (none_given sent table none gives) =
    none_more first past before after (Received conn came) sent c none (subst (λ t. GivesNone before.pending t) same gives) (λ hop e. absurd (let both : false ≡ true = sym (ap (list_any (λ h. h == hop)) none) ∙ e in cc))
received_more first past before after conn came _ _ same c (one_given to message row table flag room g limit own w) =
    one_given_more first past before after conn to came message row c flag room (subst (λ (t : PendingTable). IsGiven before.pending message.header.hop t.next) same g)
    (ap (λ (t : PendingTable). t.limit) (sym same) ∙ limit) own (subst (λ (t : PendingTable). IsWith row before.pending.rows t.rows) same w)

again_more : (first : ℕ) (past : List RelayStep) (before after : RelayState) (event : RelayEvent) (sent : Traffic) → Counts first past before.pending → new_hops event sent ≡ []
    → SendsAgain before.pending sent after.pending → Counts first (record { before = before; event = event; sent = sent; after = after } ∷ past) after.pending
again_more first past before after event sent c none again = none_more first past before after event sent c none again.none (λ hop e. c.high hop (again.same hop e))

pub step_more : (first : ℕ) (past : List RelayStep) (before after : RelayState) (event : RelayEvent) (sent : Traffic) → Counts first past before.pending → GivesAt event before.pending sent after.pending
    → Counts first (record { before = before; event = event; sent = sent; after = after } ∷ past) after.pending
step_more first past before after (Up peer conn) sent c gives = again_more first past before after (Up peer conn) sent c refl gives
step_more first past before after (Received conn came) sent c gives = received_more first past before after conn came sent after.pending refl c gives
step_more first past before after (Lost conn) sent c gives = again_more first past before after (Lost conn) sent c refl gives
step_more first past before after Restart sent c gives = again_more first past before after Restart sent c refl gives

counts : (site : RelaySite) (start : ℕ) {events : List RelayEvent} {outs : List Out} {past : List RelayStep} {last : RelayState} → IsRun (relay_at site start) events outs past last → GiveInTurn past
    → Counts (start % 2147483648) past last.pending
counts site start not_begun gives = begins site start
counts site start (one_more events event outs out past before after run step) gives = step_more (start % 2147483648) past before after event out.items (counts site start run gives.1) gives.0

-- ---- how late an identifier comes back

-- a list whose values fall into two parts falls into two
record Split (first : List ℕ) (hop : ℕ) (rest numbers : List ℕ) : Type 0 where
  before : List ℕ
  number : ℕ
  after : List ℕ
  whole : numbers ≡ before ++ number ∷ after
  is : identifier_of number ≡ hop
  rest_is : map identifier_of after ≡ rest
  as_many : length before ≡ length first

split : (first : List ℕ) (hop : ℕ) (rest numbers : List ℕ) → map identifier_of numbers ≡ first ++ hop ∷ rest → Split first hop rest numbers
split [] hop rest [] e = absurd cc
split [] hop rest (x ∷ numbers) e = record { before = []; number = x; after = numbers; whole = refl; is = cc; rest_is = cc; as_many = refl }
split (h ∷ first) hop rest [] e = absurd cc
split (h ∷ first) hop rest (x ∷ numbers) e =
    let tail : map identifier_of numbers ≡ first ++ hop ∷ rest = cc in
    let s = split first hop rest numbers tail in
    record { before = x ∷ s.before; number = s.number; after = s.after; whole = ap (λ (ns : List ℕ). x ∷ ns) s.whole; is = s.is; rest_is = s.rest_is; as_many = ap suc s.as_many }

append-cons : (later : List ℕ) (hop : ℕ) (between earlier : List ℕ) → later ++ hop ∷ between ++ hop ∷ earlier ≡ later ++ hop ∷ (between ++ hop ∷ earlier)
append-cons later hop between earlier = append_assoc later (hop ∷ between) (hop ∷ earlier)

falling-all : (before after : List ℕ) (x : ℕ) → IsFalling (before ++ x ∷ after) → IsFalling (x ∷ after) × AllByRecursion (λ y. x < y) before
unfolding IsFalling
falling-all [] after x f = (f, tt)
falling-all (b ∷ before) after x f = let rest = falling-all before after x f.1 in (rest.0, (all_at before after x f.0, rest.1))
  where
    all_at : (before after : List ℕ) (x : ℕ) → AllByRecursion (λ y. y < b) (before ++ x ∷ after) → x < b
    all_at [] after x all = all.0
    all_at (c ∷ before) after x all = all_at before after x all.1

none_within : (w n : ℕ) (numbers : List ℕ) → AllByRecursion (λ y. y < w) numbers → given_within w n numbers ≡ 0
none_within w n [] all = refl
none_within w n (x ∷ numbers) all =
    let lt = all.0 in
    let here : one (is_within w n x) ≡ 0 = ap one (not_true (is_within w n x) (λ e. let p = within-parts w n x e in absurd (omega arith))) in
    omega (arith, count-cons (is_within w n) x numbers, none_within w n numbers all.1)
  where
    not_true : (b : Bool) → (b ≡ true → ⊥) → b ≡ false
    not_true true f = absurd (f refl)
    not_true false f = refl

beyond_within : (w n : ℕ) (numbers : List ℕ) → AllByRecursion (λ y. w + n ≤ y) numbers → given_within w n numbers ≡ 0
beyond_within w n [] all = refl
beyond_within w n (x ∷ numbers) all =
    let le = all.0 in
    let here : one (is_within w n x) ≡ 0 = ap one (not_true (is_within w n x) (λ e. let p = within-parts w n x e in absurd (omega arith))) in
    omega (arith, count-cons (is_within w n) x numbers, beyond_within w n numbers all.1)
  where
    not_true : (b : Bool) → (b ≡ true → ⊥) → b ≡ false
    not_true true f = absurd (f refl)
    not_true false f = refl

raise : (low high : ℕ) (numbers : List ℕ) → high ≤ low → AllByRecursion (λ y. low < y) numbers → AllByRecursion (λ y. high ≤ y) numbers
raise low high [] le all = tt
raise low high (x ∷ numbers) le all = let lt = all.0 in (omega arith, raise low high numbers le all.1)

-- of the numbers from one on, as far as those of a whole round, only those between the two were given, and itself
few_between : (behind among ahead : List ℕ) (second front n : ℕ) → IsFalling (behind ++ second ∷ (among ++ front ∷ ahead)) → front + n ≤ second
    → given_within front n (behind ++ second ∷ (among ++ front ∷ ahead)) ≤ length among + 1
unfolding IsFalling
few_between behind among ahead second front n f far =
    let upper = falling-all behind (among ++ front ∷ ahead) second f in
    let lower = falling-all among ahead front upper.0.1 in
    let all = sum_by-append (λ x. one (is_within front n x)) behind (second ∷ (among ++ front ∷ ahead)) in
    let rest = sum_by-append (λ x. one (is_within front n x)) among (front ∷ ahead) in
    let a = beyond_within front n behind (raise second (front + n) behind far upper.1) in
    let b : one (is_within front n second) ≡ 0 = ap one (not_true (is_within front n second) (λ e. let p = within-parts front n second e in absurd (omega arith))) in
    let d = none_within front n ahead lower.0.0 in
    let own : one (is_within front n front) ≤ 1 = one-le (is_within front n front) true (λ e. refl) in
    omega (arith, count-cons (is_within front n) second (among ++ front ∷ ahead), count-cons (is_within front n) front ahead, count_by-le-length (is_within front n) among)
  where
    not_true : (b : Bool) → (b ≡ true → ⊥) → b ≡ false
    not_true true g = absurd (g refl)
    not_true false g = refl

all_in : (p : ℕ → Type 0) (before after : List ℕ) (x : ℕ) → AllByRecursion p (before ++ x ∷ after) → p x × AllByRecursion p after
all_in p [] after x all = all
all_in p (b ∷ before) after x all = all_in p before after x all.1

comes_late : {first : ℕ} {past : List RelayStep} {table : PendingTable} → Counts first past table → ComesBackLate (given_in past)
unfolding IsFalling
comes_late {first = first} {table = table} c later between earlier hop e =
    let one_ = split later hop (between ++ hop ∷ earlier) c.numbers (sym c.hops ∙ e ∙ append-cons later hop between earlier) in
    let two_ = split between hop earlier one_.after one_.rest_is in
    let whole : c.numbers ≡ one_.before ++ one_.number ∷ (two_.before ++ two_.number ∷ two_.after) = one_.whole ∙ ap (λ (ns : List ℕ). one_.before ++ one_.number ∷ ns) two_.whole in
    let falls : IsFalling (one_.before ++ one_.number ∷ (two_.before ++ two_.number ∷ two_.after)) = subst IsFalling whole c.falls in
    let upper = falling-all one_.before (two_.before ++ two_.number ∷ two_.after) one_.number falls in
    let above : two_.number < one_.number = (all_in (λ y. y < one_.number) two_.before two_.after two_.number (first_of one_.number (two_.before ++ two_.number ∷ two_.after) upper.0)).0 in
    let far : two_.number + 2147483648 ≤ one_.number = identifiers_apart two_.number one_.number (two_.is ∙ sym one_.is) above in
    let begun : first ≤ two_.number = (all_in (λ y. first ≤ y) two_.before two_.after two_.number
    (all_in (λ y. first ≤ y) one_.before (two_.before ++ two_.number ∷ two_.after) one_.number (subst (AllByRecursion (λ y. first ≤ y)) whole c.since)).1).0 in
    let under : one_.number < c.count = (all_in (λ y. y < c.count) one_.before (two_.before ++ two_.number ∷ two_.after) one_.number (subst (AllByRecursion (λ y. y < c.count)) whole c.below)).0 in
    let laps = whole_laps 32768 16383 first c.count (places_of table.rows) c.numbers c.laps (omega arith) 65536 two_.number begun (omega arith) in
    let few = few_between one_.before two_.before two_.after one_.number two_.number 2147483648 falls far in
    let given : given_within two_.number 2147483648 c.numbers ≡ given_within two_.number 2147483648 (one_.before ++ one_.number ∷ (two_.before ++ two_.number ∷ two_.after)) = ap (given_within two_.number 2147483648) whole in
    omega (arith, two_.as_many)
  where
    first_of : (x : ℕ) (xs : List ℕ) → IsFalling (x ∷ xs) → AllByRecursion (λ y. y < x) xs
    first_of x xs f = f.0

pub rising-of : {first : ℕ} {past : List RelayStep} {table : PendingTable} → Counts first past table → GivesRising past
rising-of c = record { late = comes_late c; highest = c.highest }

pub rising-kept : (site : RelaySite) (start : ℕ) {events : List RelayEvent} {outs : List Out} {past : List RelayStep} {last : RelayState} → IsRun (relay_at site start) events outs past last → GiveInTurn past → GivesRising past
rising-kept site start run gives = rising-of (counts site start run gives)
