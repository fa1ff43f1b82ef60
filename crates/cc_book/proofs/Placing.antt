-- The places of requests are those of the history, also after one more entry.
use Rattle.std.proofs.Common.{◌≡◌, ◌≢◌, ℕ, suc, ◌+◌, ◌<◌, ◌≤◌, Bool, true, false, cond, not, ◌&&◌, eqb, ltb, one-add, inl, inr, List, [], ◌∷◌, ◌++◌, length, take, get_or, Option, Some, None, refl, sym, ap, subst, ◌∙◌, arith, rules, length-append}
use Rattle.std.specs.Prelude.{◌⊎◌, unwrap_or}
use Rattle.std.specs.List.{list_all, position, position_or_len}
use Rattle.std.specs.Option.{option_and_then, option_or}
use Rattle.std.proofs.lemmas.Bool.{and_from, and_parts}
use Rattle.std.proofs.lemmas.List.Folds.{position_or_len_push}
use Rattle.std.proofs.lemmas.List.Quantifiers.{position-Some}
use Rattle.std.proofs.lemmas.List.Sums.{prefix_len-le-length}
use Rattle.indexmap.specs.IndexMap.{get}
use Rattle.dia_base.specs.declared.number.Moment.{Moment}
use Rattle.cc_view.specs.declared.request.CcRequest.{CcRequest}
use Rattle.cc_book.specs.declared.entry.Entry.{Entry}
use Rattle.cc_book.specs.declared.entry.Entry.TheVariants.{Take, Sweep, ChangeTerms}
use Rattle.cc_book.specs.declared.places.Places.{Places}
use Rattle.cc_book.specs.Duplicate.{Key, has_key, key_of, same_key, same_session}
use Rattle.cc_book.specs.History.{IsNew, entry_key, place_of}
use Rattle.cc_book.specs.Places.{IsIndexed, first_of, place_in, same_numbered}
use Rattle.cc_book.specs.Session.{is_of}
use Rattle.cc_book.proofs.Sessions.{equal_number, same_number, same_session-equal, same_session-self}

not_true : (b : Bool) → not b ≡ true → b ≡ false
not_true true e = absurd cc
not_true false e = refl

-- ---- the first place at which a test passes

module _ {X : Type 0} (p : X → Bool) where
  placed : ℕ → ℕ → Option ℕ
  placed at len = cond (ltb at len) (Some at) None

  push_by : (xs : List X) (y : X) (here last : Bool) → ltb (position_or_len p xs) (length xs) ≡ here → p y ≡ last
      → position p (xs ++ y ∷ []) ≡ option_or (position p xs) (cond last (Some (length xs)) None)
  unfolding placed
  push_by xs y true last h e =
      let less : position_or_len p xs < length xs = search rules in
      let apart : eqb (position_or_len p xs) (length xs) ≡ false = search rules in
      let long = length-append xs (y ∷ []) in
      let same = position_or_len_push p xs y ∙ ap (λ (b : Bool). cond b (length xs + cond (p y) 0 1) (position_or_len p xs)) apart in
      let later : ltb (position_or_len p xs) (length (xs ++ y ∷ [])) ≡ true = search rules in
      ap (λ (n : ℕ). placed n (length (xs ++ y ∷ []))) same
      ∙ ap (λ (b : Bool). cond b (Some (position_or_len p xs)) None) later
      ∙ sym (ap (λ (b : Bool). option_or (cond b (Some (position_or_len p xs)) None) (cond last (Some (length xs)) None)) h)
  push_by xs y false true h e =
      let most = prefix_len-le-length (λ (x : X). not (p x)) xs in
      let none : position_or_len p xs ≡ length xs = search rules in
      let met : eqb (position_or_len p xs) (length xs) ≡ true = search rules in
      let long = length-append xs (y ∷ []) in
      let same : position_or_len p (xs ++ y ∷ []) ≡ length xs + 0 =
      position_or_len_push p xs y ∙ ap (λ (b : Bool). cond b (length xs + cond (p y) 0 1) (position_or_len p xs)) met
      ∙ ap (λ (b : Bool). length xs + cond b 0 1) e in
      let there : position_or_len p (xs ++ y ∷ []) ≡ length xs = omega arith in
      let later : ltb (length xs) (length (xs ++ y ∷ [])) ≡ true = search rules in
      ap (λ (n : ℕ). placed n (length (xs ++ y ∷ []))) there
      ∙ ap (λ (b : Bool). cond b (Some (length xs)) None) later
      ∙ sym (ap (λ (b : Bool). option_or (cond b (Some (position_or_len p xs)) None) (Some (length xs))) h)
  push_by xs y false false h e =
      let most = prefix_len-le-length (λ (x : X). not (p x)) xs in
      let none : position_or_len p xs ≡ length xs = search rules in
      let met : eqb (position_or_len p xs) (length xs) ≡ true = search rules in
      let long = length-append xs (y ∷ []) in
      let same : position_or_len p (xs ++ y ∷ []) ≡ length xs + 1 =
      position_or_len_push p xs y ∙ ap (λ (b : Bool). cond b (length xs + cond (p y) 0 1) (position_or_len p xs)) met
      ∙ ap (λ (b : Bool). length xs + cond b 0 1) e in
      let nowhere : ltb (position_or_len p (xs ++ y ∷ [])) (length (xs ++ y ∷ [])) ≡ false = search rules in
      ap (λ (b : Bool). cond b (Some (position_or_len p (xs ++ y ∷ []))) None) nowhere
      ∙ sym (ap (λ (b : Bool). option_or (cond b (Some (position_or_len p xs)) None) None) h)

  position-push : (xs : List X) (y : X) → position p (xs ++ y ∷ []) ≡ option_or (position p xs) (cond (p y) (Some (length xs)) None)
  position-push xs y = push_by xs y (ltb (position_or_len p xs) (length xs)) (p y) refl refl

  -- none passes where none has a place
  all_by : (xs : List X) → length xs ≤ position_or_len p xs → list_all (λ (x : X). not (p x)) xs ≡ true
  all_by [] le = refl
  all_by (x ∷ xs) le = by (p x) refl (all_by xs) where
    by : (b : Bool) → p x ≡ b → (length xs ≤ position_or_len p xs → list_all (λ (y : X). not (p y)) xs ≡ true)
        → (not (p x) && list_all (λ (y : X). not (p y)) xs) ≡ true
    by true e more = absurd (let first : position_or_len p (x ∷ xs) ≡ 0 = ap (λ (b : Bool). cond {A = ℕ} (not b) (1 + position_or_len p xs) 0) e in omega arith)
    by false e more =
        let first : position_or_len p (x ∷ xs) ≡ 1 + position_or_len p xs = ap (λ (b : Bool). cond {A = ℕ} (not b) (1 + position_or_len p xs) 0) e in
        and_from (not (p x)) (list_all (λ (y : X). not (p y)) xs) (ap not e) (more (omega arith))

  none-placed : (xs : List X) → position p xs ≡ None → list_all (λ (x : X). not (p x)) xs ≡ true
  none-placed xs none = by (ltb (position_or_len p xs) (length xs)) refl where
    by : (b : Bool) → ltb (position_or_len p xs) (length xs) ≡ b → list_all (λ (x : X). not (p x)) xs ≡ true
    by true e = absurd (let some : Some (position_or_len p xs) ≡ None = sym (ap (λ (b : Bool). cond b (Some (position_or_len p xs)) None) e) ∙ none in cc)
    by false e = let least : length xs ≤ position_or_len p xs = search rules in all_by xs least

  all_len : (xs : List X) → list_all (λ (x : X). not (p x)) xs ≡ true → position_or_len p xs ≡ length xs
  all_len [] all = refl
  all_len (x ∷ xs) all =
      let parts = and_parts (not (p x)) (list_all (λ (y : X). not (p y)) xs) all in
      let first : position_or_len p (x ∷ xs) ≡ 1 + position_or_len p xs = ap (λ (b : Bool). cond {A = ℕ} b (1 + position_or_len p xs) 0) parts.0 in
      let more = all_len xs parts.1 in omega arith

  none-from : (xs : List X) → list_all (λ (x : X). not (p x)) xs ≡ true → position p xs ≡ None
  none-from xs all =
      let long = all_len xs all in
      let nowhere : ltb (position_or_len p xs) (length xs) ≡ false = search rules in
      ap (λ (b : Bool). cond b (Some (position_or_len p xs)) None) nowhere

  some-placed : (xs : List X) (at : ℕ) → position p xs ≡ Some at → position_or_len p xs ≡ at
  some-placed xs at some = by (ltb (position_or_len p xs) (length xs)) refl where
    by : (b : Bool) → ltb (position_or_len p xs) (length xs) ≡ b → position_or_len p xs ≡ at
    by true e = let found : Some (position_or_len p xs) ≡ Some at = sym (ap (λ (b : Bool). cond b (Some (position_or_len p xs)) None) e) ∙ some in cc
    by false e = absurd (let none : None ≡ Some at = sym (ap (λ (b : Bool). cond b (Some (position_or_len p xs)) None) e) ∙ some in cc)

  -- and none before it
  none-before : (xs : List X) → list_all (λ (x : X). not (p x)) (take (position_or_len p xs) xs) ≡ true
  none-before [] = refl
  none-before (x ∷ xs) = by (p x) refl (none-before xs) where
    All : List X → Type 0
    All ys = list_all (λ (y : X). not (p y)) ys ≡ true

    by : (b : Bool) → p x ≡ b → All (take (position_or_len p xs) xs) → All (take (position_or_len p (x ∷ xs)) (x ∷ xs))
    by true e more =
        let first : position_or_len p (x ∷ xs) ≡ 0 = ap (λ (b : Bool). cond {A = ℕ} (not b) (1 + position_or_len p xs) 0) e in
        subst (λ (n : ℕ). All (take n (x ∷ xs))) (sym first) refl
    by false e more =
        let first : position_or_len p (x ∷ xs) ≡ suc (position_or_len p xs) =
        ap (λ (b : Bool). cond {A = ℕ} (not b) (1 + position_or_len p xs) 0) e ∙ one-add (position_or_len p xs) in
        subst (λ (n : ℕ). All (take n (x ∷ xs))) (sym first)
        (and_from (not (p x)) (list_all (λ (y : X). not (p y)) (take (position_or_len p xs) xs)) (ap not e) more)

-- ---- what is found is kept

or_none : (found : Option ℕ) → option_or found None ≡ found
or_none None = refl
or_none (Some at) = refl

and_false : (b : Bool) → (b && false) ≡ false
and_false true = refl
and_false false = refl

pub new-unplaced : (history : List Entry) (key : Key) → place_of history key ≡ None → IsNew history key
new-unplaced history key none = none-placed (has_key key) history none

pub new-before_place : (history : List Entry) (key : Key) (place : ℕ) → place_of history key ≡ Some place → IsNew (take place history) key
new-before_place history key place some = subst (λ (n : ℕ). IsNew (take n history) key) (some-placed (has_key key) history place some)
    (none-before (has_key key) history)

pub place-within : (history : List Entry) (key : Key) (place : ℕ) (d : Entry) → place_of history key ≡ Some place
    → (place < length history) × (has_key key (get_or history place d) ≡ true)
place-within history key place d some = let at = position-Some (has_key key) history place d some in (at.0, at.1)

-- no request of a session has a key of it
unknown_by : (history : List Entry) (id : List ℕ) (number : ℕ) → list_all (λ (e : Entry). not (is_of id e)) history ≡ true
    → IsNew history (record { session = id; number = number })
unknown_by [] id number all = refl
unknown_by (Take m r ∷ history) id number all =
    let parts = and_parts (not (same_session r.session id)) (list_all (λ (e : Entry). not (is_of id e)) history) all in
    let other : same_session r.session id ≡ false = not_true (same_session r.session id) parts.0 in
    let apart : same_key (key_of r) (record { session = id; number = number }) ≡ false =
    ap (λ (b : Bool). eqb r.number number && b) other ∙ and_false (eqb r.number number) in
    and_from (not (same_key (key_of r) (record { session = id; number = number })))
    (list_all (λ (e : Entry). not (has_key (record { session = id; number = number }) e)) history)
    (ap not apart) (unknown_by history id number parts.1)
unknown_by (Sweep m ∷ history) id number all = unknown_by history id number all
unknown_by (ChangeTerms m change ∷ history) id number all = unknown_by history id number all

unknown : (history : List Entry) (id : List ℕ) (number : ℕ) → first_of history id ≡ None → place_of history (record { session = id; number = number }) ≡ None
unknown history id number none =
    none-from (has_key (record { session = id; number = number })) history (unknown_by history id number (none-placed (is_of id) history none))

pub found-kept : (history : List Entry) (places : Places) (key : Key) → IsIndexed history places → place_in places key ≡ place_of history key
found-kept history places key indexed = by (first_of history key.session) refl where
  by : (found : Option ℕ) → first_of history key.session ≡ found → place_in places key ≡ place_of history key
  by None e =
      ap (option_and_then (λ (first : ℕ). get same_numbered places.numbered (first, key.number))) (indexed.firsts key.session ∙ e)
      ∙ sym (unknown history key.session key.number e)
  by (Some first) e =
      ap (option_and_then (λ (first : ℕ). get same_numbered places.numbered (first, key.number))) (indexed.firsts key.session ∙ e)
      ∙ indexed.numbered key.session first key.number e

-- ---- one entry more

pub IsIndexed-empty : (places : Places) → ((id : List ℕ) → get same_session places.firsts id ≡ None)
    → ((q : ℕ × ℕ) → get same_numbered places.numbered q ≡ None) → IsIndexed [] places
IsIndexed-empty places firsts numbered = record {
  firsts = firsts;
  numbered = λ id first number some. absurd cc;
  untaken = λ first number le. numbered (first, number);
}

-- an entry that is no request stands at no place
pub IsIndexed-keyless : (history : List Entry) (places : Places) (last : Entry) → entry_key last ≡ None → IsIndexed history places
    → IsIndexed (history ++ last ∷ []) places
IsIndexed-keyless history places last none indexed =
    let same : (id : List ℕ) → first_of (history ++ last ∷ []) id ≡ first_of history id = λ id. position-push (is_of id) history last
    ∙ ap (λ (b : Bool). option_or (first_of history id) (cond b (Some (length history)) None)) (of_none id last none)
    ∙ or_none (first_of history id) in
    let long = length-append history (last ∷ []) in
    record {
      firsts = λ id. indexed.firsts id ∙ sym (same id);
      numbered = λ id first number some.
          let key : Key = record { session = id; number = number } in
          indexed.numbered id first number (sym (same id) ∙ some)
          ∙ sym (position-push (has_key key) history last
          ∙ ap (λ (b : Bool). option_or (place_of history key) (cond b (Some (length history)) None)) (keyless key last none)
          ∙ or_none (place_of history key));
      untaken = λ first number le. indexed.untaken first number (omega arith);
    } where
      of_none : (id : List ℕ) (entry : Entry) → entry_key entry ≡ None → is_of id entry ≡ false
      of_none id (Take m r) none = absurd cc
      of_none id (Sweep m) none = refl
      of_none id (ChangeTerms m change) none = refl

      keyless : (key : Key) (entry : Entry) → entry_key entry ≡ None → has_key key entry ≡ false
      keyless key (Take m r) none = absurd cc
      keyless key (Sweep m) none = refl
      keyless key (ChangeTerms m change) none = refl

same_first : (m n : ℕ) → Some m ≡ Some n → m ≡ n
same_first m n e = cc

both_of : (one other : List ℕ) (entry : Entry) → is_of one entry ≡ true → is_of other entry ≡ true → same_session one other ≡ true
both_of one other (Take m r) e f =
    subst (λ (id : List ℕ). same_session id other ≡ true) (same_session-equal r.session one e) f
both_of one other (Sweep m) e f = absurd cc
both_of one other (ChangeTerms m change) e f = absurd cc

module _ (history : List Entry) (old new : Places) (place first : ℕ) (moment : Moment) (request : CcRequest)
    (indexed : IsIndexed history old) (at : place ≡ length history) (is_new : IsNew history (key_of request))
    (is_first : first ≡ unwrap_or (get same_session old.firsts request.session) place)
    (firsts : (id : List ℕ) → get same_session new.firsts id ≡ cond (same_session request.session id) (Some first) (get same_session old.firsts id))
    (numbered : (q : ℕ × ℕ) → get same_numbered new.numbered q ≡ cond (same_numbered (first, request.number) q) (Some place)
    (get same_numbered old.numbered q)) where
  -- the session is known, or it begins here
  abbrev pub IsFirst : Type 0
  IsFirst = (first_of history request.session ≡ Some first) ⊎ ((first_of history request.session ≡ None) × (first ≡ length history))

  is_first_in : IsFirst
  is_first_in = by (first_of history request.session) refl where
    by : (found : Option ℕ) → first_of history request.session ≡ found → IsFirst
    by None e = inr (e, is_first ∙ ap (λ (found : Option ℕ). unwrap_or found place) (indexed.firsts request.session ∙ e) ∙ at)
    by (Some known) e =
        let same : first ≡ known = is_first ∙ ap (λ (found : Option ℕ). unwrap_or found place) (indexed.firsts request.session ∙ e) in
        inl (e ∙ ap (λ (n : ℕ). Some n) (sym same))

  own_by : IsFirst → first_of (history ++ Take moment request ∷ []) request.session ≡ Some first
  own_by (inl known) =
      position-push (is_of request.session) history (Take moment request)
      ∙ ap (λ (found : Option ℕ). option_or found (cond (same_session request.session request.session) (Some (length history)) None)) known
  own_by (inr begins) =
      position-push (is_of request.session) history (Take moment request)
      ∙ ap (λ (found : Option ℕ). option_or found (cond (same_session request.session request.session) (Some (length history)) None)) begins.0
      ∙ ap (λ (b : Bool). cond b (Some (length history)) None) (same_session-self request.session)
      ∙ ap (λ (n : ℕ). Some n) (sym begins.1)

  other : (id : List ℕ) → same_session request.session id ≡ false → first_of (history ++ Take moment request ∷ []) id ≡ first_of history id
  other id e =
      position-push (is_of id) history (Take moment request)
      ∙ ap (λ (b : Bool). option_or (first_of history id) (cond b (Some (length history)) None)) e
      ∙ or_none (first_of history id)

  firsts_next : (id : List ℕ) → get same_session new.firsts id ≡ first_of (history ++ Take moment request ∷ []) id
  firsts_next id = by (same_session request.session id) refl where
    by : (b : Bool) → same_session request.session id ≡ b → get same_session new.firsts id ≡ first_of (history ++ Take moment request ∷ []) id
    by true e =
        firsts id ∙ ap (λ (b : Bool). cond b (Some first) (get same_session old.firsts id)) e
        ∙ sym (subst (λ (known : List ℕ). first_of (history ++ Take moment request ∷ []) known ≡ Some first) (same_session-equal request.session id e)
        (own_by is_first_in))
    by false e =
        firsts id ∙ ap (λ (b : Bool). cond b (Some first) (get same_session old.firsts id)) e
        ∙ indexed.firsts id ∙ sym (other id e)

  place_next : (key : Key) → place_of (history ++ Take moment request ∷ []) key
      ≡ option_or (place_of history key) (cond (same_key (key_of request) key) (Some (length history)) None)
  place_next key = position-push (has_key key) history (Take moment request)

  -- another number of the session is found as before
  number_before : IsFirst → (number : ℕ) → get same_numbered old.numbered (first, number)
      ≡ place_of history (record { session = request.session; number = number })
  number_before (inl known) number = indexed.numbered request.session first number known
  number_before (inr begins) number =
      let late : length history ≤ first = omega (arith, begins.1) in
      indexed.untaken first number late ∙ sym (unknown history request.session number begins.0)

  numbered_own : (number : ℕ) → get same_numbered new.numbered (first, number)
      ≡ place_of (history ++ Take moment request ∷ []) (record { session = request.session; number = number })
  numbered_own number = by (eqb request.number number) refl where
    by : (b : Bool) → eqb request.number number ≡ b
        → get same_numbered new.numbered (first, number)
        ≡ place_of (history ++ Take moment request ∷ []) (record { session = request.session; number = number })
    by true e =
        let same : request.number ≡ number = equal_number request.number number e in
        let met : same_numbered (first, request.number) (first, number) ≡ true = and_from (eqb first first) (eqb request.number number) (same_number first) e in
        let one : same_key (key_of request) (record { session = request.session; number = number }) ≡ true =
        and_from (eqb request.number number) (same_session request.session request.session) e (same_session-self request.session) in
        let none : place_of history (record { session = request.session; number = number }) ≡ None =
        subst (λ (n : ℕ). place_of history (record { session = request.session; number = n }) ≡ None) same
        (none-from (has_key (key_of request)) history is_new) in
        numbered (first, number) ∙ ap (λ (b : Bool). cond b (Some place) (get same_numbered old.numbered (first, number))) met
        ∙ ap (λ (n : ℕ). Some n) at
        ∙ sym (place_next (record { session = request.session; number = number })
        ∙ ap (λ (found : Option ℕ). option_or found
        (cond (same_key (key_of request) (record { session = request.session; number = number })) (Some (length history)) None)) none
        ∙ ap (λ (b : Bool). cond b (Some (length history)) None) one)
    by false e =
        let apart : same_numbered (first, request.number) (first, number) ≡ false = ap (λ (b : Bool). eqb first first && b) e ∙ and_false (eqb first first) in
        let two : same_key (key_of request) (record { session = request.session; number = number }) ≡ false =
        ap (λ (b : Bool). b && same_session request.session request.session) e in
        numbered (first, number) ∙ ap (λ (b : Bool). cond b (Some place) (get same_numbered old.numbered (first, number))) apart
        ∙ number_before is_first_in number
        ∙ sym (place_next (record { session = request.session; number = number })
        ∙ ap (λ (b : Bool). option_or (place_of history (record { session = request.session; number = number })) (cond b (Some (length history)) None)) two
        ∙ or_none (place_of history (record { session = request.session; number = number })))

  -- another session began elsewhere
  apart_by : IsFirst → (id : List ℕ) (begun : ℕ) → same_session request.session id ≡ false → first_of history id ≡ Some begun → first ≢ begun
  apart_by (inl known) id begun e some same =
      let mine = position-Some (is_of request.session) history first (Take moment request) known in
      let its = position-Some (is_of id) history first (Take moment request) (some ∙ ap (λ (n : ℕ). Some n) (sym same)) in
      let met = both_of request.session id (get_or history first (Take moment request)) mine.1 its.1 in cc
  apart_by (inr begins) id begun e some same =
      let its = position-Some (is_of id) history begun (Take moment request) some in omega (arith, its.0, begins.1, same)

  first-within : IsFirst → first ≤ length history
  first-within (inl known) = let mine = position-Some (is_of request.session) history first (Take moment request) known in omega (arith, mine.0)
  first-within (inr begins) = omega (arith, begins.1)

  unlike : (m n i j : ℕ) → m ≢ n → same_numbered (m, i) (n, j) ≡ false
  unlike m n i j apart = by (eqb m n) refl where
    by : (b : Bool) → eqb m n ≡ b → (eqb m n && eqb i j) ≡ false
    by true e = absurd (apart (equal_number m n e))
    by false e = ap (λ (b : Bool). b && eqb i j) e

  numbered_next : (id : List ℕ) (begun number : ℕ) → first_of (history ++ Take moment request ∷ []) id ≡ Some begun
      → get same_numbered new.numbered (begun, number) ≡ place_of (history ++ Take moment request ∷ []) (record { session = id; number = number })
  numbered_next id begun number some = by (same_session request.session id) refl where
    by : (b : Bool) → same_session request.session id ≡ b
        → get same_numbered new.numbered (begun, number) ≡ place_of (history ++ Take moment request ∷ []) (record { session = id; number = number })
    by true e =
        let same : request.session ≡ id = same_session-equal request.session id e in
        let own = subst (λ (known : List ℕ). first_of (history ++ Take moment request ∷ []) known ≡ Some first) same (own_by is_first_in) in
        let there : first ≡ begun = same_first first begun (sym own ∙ some) in
        ap (λ (n : ℕ). get same_numbered new.numbered (n, number)) (sym there)
        ∙ numbered_own number
        ∙ ap (λ (known : List ℕ). place_of (history ++ Take moment request ∷ []) (record { session = known; number = number })) same
    by false e =
        let before : first_of history id ≡ Some begun = sym (other id e) ∙ some in
        let apart = apart_by is_first_in id begun e before in
        let two : same_key (key_of request) (record { session = id; number = number }) ≡ false = ap (λ (b : Bool). eqb request.number number && b) e
        ∙ and_false (eqb request.number number) in
        numbered (begun, number) ∙ ap (λ (b : Bool). cond b (Some place) (get same_numbered old.numbered (begun, number)))
        (unlike first begun request.number number apart)
        ∙ indexed.numbered id begun number before
        ∙ sym (place_next (record { session = id; number = number })
        ∙ ap (λ (b : Bool). option_or (place_of history (record { session = id; number = number })) (cond b (Some (length history)) None)) two
        ∙ or_none (place_of history (record { session = id; number = number })))

  pub IsIndexed-push : IsIndexed (history ++ Take moment request ∷ []) new
  IsIndexed-push =
      let long = length-append history (Take moment request ∷ []) in
      let most = first-within is_first_in in
      record {
        firsts = firsts_next;
        numbered = numbered_next;
        untaken = λ late number le.
            let apart : first ≢ late = λ same. omega (arith, same) in
            numbered (late, number) ∙ ap (λ (b : Bool). cond b (Some place) (get same_numbered old.numbered (late, number)))
            (unlike first late request.number number apart)
            ∙ indexed.untaken late number (omega arith);
      }
