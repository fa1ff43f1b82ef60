-- Open sessions under their Session-Ids, and the totals of what they hold.
use Rattle.std.proofs.Common.{◌≡◌, ℕ, zero, suc, ◌+◌, ◌-◌, ◌<◌, ◌≤◌, Bool, true, false, cond, not, eqb, ltb, List, [], ◌∷◌, ◌++◌, length, get_or, Some, None, refl, sym, ap, subst, ◌∙◌, arith, remove, swap_remove, slice_get, slice_set, get_or-set_same, get_or-set_other, length-set}
use Rattle.std.specs.List.{AllByRecursion, position, position_or_len}
use Rattle.std.specs.Map.{keys_of, values_of}
use Rattle.std.proofs.lemmas.List.{get_or_default, length-map, map-append, map-set}
use Rattle.std.proofs.lemmas.Option.{slice_get-get_or, slice_get_within}
use Rattle.indexmap.specs.Layout.{set_value_at}
use Rattle.indexmap.specs.IndexMap.{insert_entry}
use Rattle.dia_base.specs.declared.number.Moment.{Moment}
use Rattle.cc_book.specs.declared.session.OpenSession.{OpenSession}
use Rattle.cc_book.specs.Duplicate.{same_session}
use Rattle.cc_book.specs.OpenSessions.{AreTotals, GoesOnAt, IsKept, lasts_of}
use Rattle.cc_book.specs.Standing.{held_in, is_due, is_session, place_in, reserved_in, without_at, without_due}
use Rattle.cc_book.proofs.Shuffling.{reserved-shuffled}
use Rattle.cc_book.proofs.WithoutAt.{all-shuffled, map-without, without-behind, without-is, without-shuffled}
use Rattle.cc_book.proofs.Sessions.{Others, equal_number, others-closed, same_number, same_session-turns}

abbrev pub Rows : Type 0
Rows = List (List ℕ × OpenSession)

abbrev pub Own : Rows → Type 0
Own entries = AllByRecursion (λ entry. entry.0 ≡ entry.1.id) entries

abbrev pub Known : ℕ → List OpenSession → Type 0
Known count sessions = AllByRecursion (λ session. session.account < count) sessions

-- what a session holds of an account
abbrev pub held_of : ℕ → OpenSession → ℕ
held_of account session = cond (eqb session.account account) (held_in session.holds) 0

-- ---- the sessions, and their Session-Ids

pub values-push : (es : Rows) (id : List ℕ) (s : OpenSession) → values_of (es ++ (id, s) ∷ []) ≡ values_of es ++ s ∷ []
values-push es id s = map-append (λ (e : List ℕ × OpenSession). e.1) es ((id, s) ∷ [])

pub values-set : (es : Rows) (place : ℕ) (s : OpenSession) → values_of (set_value_at es place s) ≡ slice_set (values_of es) place s
values-set [] place s = refl
values-set (e ∷ es) zero s = refl
values-set (e ∷ es) (suc place) s = ap (λ (ss : List OpenSession). e.1 ∷ ss) (values-set es place s)

pub values-without : (es : Rows) (place : ℕ) (e : List ℕ × OpenSession) → slice_get es place ≡ Some e → values_of (without_at es place) ≡ without_at (values_of es) place
values-without es place e there = map-without (λ (x : List ℕ × OpenSession). x.1) es place e there

pub values-at : (es : Rows) (place : ℕ) (e : List ℕ × OpenSession) → slice_get es place ≡ Some e → slice_get (values_of es) place ≡ Some e.1
values-at [] place e there = absurd cc
values-at (x ∷ es) zero e there = let same : x ≡ e = cc in ap (λ (y : List ℕ × OpenSession). Some y.1) same
values-at (x ∷ es) (suc place) e there = values-at es place e there

pub own-push : (es : Rows) (id : List ℕ) (s : OpenSession) → id ≡ s.id → Own es → Own (es ++ (id, s) ∷ [])
own-push [] id s same own = (same, tt)
own-push (e ∷ es) id s same own = (own.0, own-push es id s same own.1)

pub own-set : (es : Rows) (place : ℕ) (s o : OpenSession) → slice_get (values_of es) place ≡ Some o → s.id ≡ o.id → Own es → Own (set_value_at es place s)
own-set [] place s o there same own = tt
own-set (e ∷ es) zero s o there same own = let is : e.1 ≡ o = cc in (own.0 ∙ ap (λ (x : OpenSession). x.id) is ∙ sym same, own.1)
own-set (e ∷ es) (suc place) s o there same own = (own.0, own-set es place s o there same own.1)

pub own-remove : (es : Rows) (place : ℕ) → Own es → Own (remove es place)
own-remove [] zero own = tt
own-remove [] (suc place) own = tt
own-remove (e ∷ es) zero own = own.1
own-remove (e ∷ es) (suc place) own = (own.0, own-remove es place own.1)

pub own-without : (es : Rows) (place : ℕ) (e : List ℕ × OpenSession) → slice_get es place ≡ Some e → Own es → Own (without_at es place)
own-without es place e there own =
    all-shuffled (λ (x : List ℕ × OpenSession). x.0 ≡ x.1.id) (remove es place) (without_at es place) (without-shuffled es place e there) (own-remove es place own)

-- ---- accounts that are known

pub known-push : (n : ℕ) (ss : List OpenSession) (s : OpenSession) → s.account < n → Known n ss → Known n (ss ++ s ∷ [])
known-push n [] s lt known = (lt, tt)
known-push n (x ∷ ss) s lt known = (known.0, known-push n ss s lt known.1)

pub known-set : (n : ℕ) (ss : List OpenSession) (place : ℕ) (s : OpenSession) → s.account < n → Known n ss → Known n (slice_set ss place s)
known-set n [] place s lt known = tt
known-set n (x ∷ ss) zero s lt known = (lt, known.1)
known-set n (x ∷ ss) (suc place) s lt known = (known.0, known-set n ss place s lt known.1)

pub known-remove : (n : ℕ) (ss : List OpenSession) (place : ℕ) → Known n ss → Known n (remove ss place)
known-remove n [] zero known = tt
known-remove n [] (suc place) known = tt
known-remove n (x ∷ ss) zero known = known.1
known-remove n (x ∷ ss) (suc place) known = (known.0, known-remove n ss place known.1)

pub known-without : (n : ℕ) (ss : List OpenSession) (place : ℕ) (s : OpenSession) → slice_get ss place ≡ Some s → Known n ss → Known n (without_at ss place)
known-without n ss place s there known =
    all-shuffled (λ (x : OpenSession). x.account < n) (remove ss place) (without_at ss place) (without-shuffled ss place s there) (known-remove n ss place known)

pub known-at : (n : ℕ) (ss : List OpenSession) (place : ℕ) (s : OpenSession) → slice_get ss place ≡ Some s → Known n ss → s.account < n
known-at n [] place s there known = absurd cc
known-at n (x ∷ ss) zero s there known = let same : x ≡ s = cc in subst (λ (y : OpenSession). y.account < n) same known.0
known-at n (x ∷ ss) (suc place) s there known = known-at n ss place s there known.1

-- ---- the place of a Session-Id

own_test : (id own : List ℕ) (s : OpenSession) → own ≡ s.id → same_session id own ≡ is_session id s
own_test id own s same = same_session-turns id own ∙ ap (λ (zs : List ℕ). same_session zs id) same

place_or-same : (id : List ℕ) (es : Rows) → Own es → position_or_len (same_session id) (keys_of es) ≡ position_or_len (is_session id) (values_of es)
place_or-same id [] own = refl
place_or-same id (e ∷ es) own =
    ap (λ (b : Bool). cond {A = ℕ} (not b) (1 + position_or_len (same_session id) (keys_of es)) 0) (own_test id e.0 e.1 own.0)
    ∙ ap (λ (n : ℕ). cond {A = ℕ} (not (is_session id e.1)) (1 + n) 0) (place_or-same id es own.1)

long_same : (es : Rows) → length (keys_of es) ≡ length (values_of es)
long_same [] = refl
long_same (e ∷ es) = ap suc (long_same es)

pub place-same : (id : List ℕ) (es : Rows) → Own es → position (same_session id) (keys_of es) ≡ place_in (values_of es) id
place-same id es own =
    ap (λ (n : ℕ). cond (ltb n (length (keys_of es))) (Some n) None) (place_or-same id es own)
    ∙ ap (λ (n : ℕ). cond (ltb (position_or_len (is_session id) (values_of es)) n) (Some (position_or_len (is_session id) (values_of es))) None) (long_same es)

insert_others : (id : List ℕ) (s : OpenSession) (es : Rows) → Others id (values_of es) → Own es → insert_entry same_session es id s ≡ es ++ (id, s) ∷ []
insert_others id s [] others own = refl
insert_others id s (e ∷ es) others own =
    ap (λ (b : Bool). cond b ((e.0, s) ∷ es) (e ∷ insert_entry same_session es id s)) (own_test id e.0 e.1 own.0 ∙ others.0)
    ∙ ap (λ (xs : Rows). e ∷ xs) (insert_others id s es others.1 own.1)

pub insert-new : (id : List ℕ) (s : OpenSession) (es : Rows) → place_in (values_of es) id ≡ None → Own es
    → insert_entry same_session es id s ≡ es ++ (id, s) ∷ []
insert-new id s es closed own = insert_others id s es (others-closed id (values_of es) closed) own

-- ---- totals

pub reserved-push : (a : ℕ) (ss : List OpenSession) (s : OpenSession) → reserved_in a (ss ++ s ∷ []) ≡ reserved_in a ss + held_of a s
reserved-push a [] s = omega arith
reserved-push a (x ∷ ss) s = let more = reserved-push a ss s in omega arith

pub reserved-set : (a : ℕ) (ss : List OpenSession) (place : ℕ) (s o : OpenSession) → slice_get ss place ≡ Some o
    → reserved_in a (slice_set ss place s) + held_of a o ≡ reserved_in a ss + held_of a s
reserved-set a [] place s o there = absurd cc
reserved-set a (x ∷ ss) zero s o there = let same : x ≡ o = cc in let held = ap (held_of a) same in omega arith
reserved-set a (x ∷ ss) (suc place) s o there = let more = reserved-set a ss place s o there in omega arith

pub reserved-remove : (a : ℕ) (ss : List OpenSession) (place : ℕ) (o : OpenSession) → slice_get ss place ≡ Some o
    → reserved_in a (remove ss place) + held_of a o ≡ reserved_in a ss
reserved-remove a [] place o there = absurd cc
reserved-remove a (x ∷ ss) zero o there = let same : x ≡ o = cc in let held = ap (held_of a) same in omega arith
reserved-remove a (x ∷ ss) (suc place) o there = let more = reserved-remove a ss place o there in omega arith

pub reserved-without : (a : ℕ) (ss : List OpenSession) (place : ℕ) (o : OpenSession) → slice_get ss place ≡ Some o
    → reserved_in a (without_at ss place) + held_of a o ≡ reserved_in a ss
reserved-without a ss place o there =
    let same = reserved-shuffled a (remove ss place) (without_at ss place) (without-shuffled ss place o there) in
    let all = reserved-remove a ss place o there in
    omega arith

get-set : (ts : List ℕ) (i v a : ℕ) → i < length ts → get_or (slice_set ts i v) a 0 ≡ cond (eqb i a) v (get_or ts a 0)
get-set ts i v a lt = by (eqb i a) refl where
  by : (b : Bool) → eqb i a ≡ b → get_or (slice_set ts i v) a 0 ≡ cond b v (get_or ts a 0)
  by true e = ap (λ (n : ℕ). get_or (slice_set ts i v) n 0) (sym (equal_number i a e)) ∙ get_or-set_same ts i v 0 lt
  by false e = get_or-set_other ts i a v 0 (λ same. let met = ap (eqb i) same ∙ same_number i in absurd cc)

-- a total is raised, or lowered, by what the sessions hold more, or less
pub totals-set : (ts : List ℕ) (xs ys : List OpenSession) (i v more less : ℕ) → AreTotals ts xs → i < length ts → v + less ≡ get_or ts i 0 + more
    → ((a : ℕ) → reserved_in a ys + cond (eqb i a) less 0 ≡ reserved_in a xs + cond (eqb i a) more 0) → AreTotals (slice_set ts i v) ys
totals-set ts xs ys i v more less totals lt sum moved = λ a. get-set ts i v a lt ∙ by a (eqb i a) refl where
  by : (a : ℕ) (b : Bool) → eqb i a ≡ b → cond b v (get_or ts a 0) ≡ reserved_in a ys
  by a true e =
      let here = moved a in
      let at : i ≡ a = equal_number i a e in
      let total : get_or ts i 0 ≡ reserved_in a xs = ap (λ (n : ℕ). get_or ts n 0) at ∙ totals a in
      let less_is : cond {A = ℕ} (eqb i a) less 0 ≡ less = ap (λ (b : Bool). cond {A = ℕ} b less 0) e in
      let more_is : cond {A = ℕ} (eqb i a) more 0 ≡ more = ap (λ (b : Bool). cond {A = ℕ} b more 0) e in
      omega arith
  by a false e =
      let here = moved a in
      let total = totals a in
      let less_is : cond {A = ℕ} (eqb i a) less 0 ≡ 0 = ap (λ (b : Bool). cond {A = ℕ} b less 0) e in
      let more_is : cond {A = ℕ} (eqb i a) more 0 ≡ 0 = ap (λ (b : Bool). cond {A = ℕ} b more 0) e in
      omega arith

-- a session holds no more of its account than the total
pub held-total : (ss : List OpenSession) (place : ℕ) (s : OpenSession) → slice_get ss place ≡ Some s → held_in s.holds ≤ reserved_in s.account ss
held-total ss place s there =
    let all = reserved-remove s.account ss place s there in
    let own : held_of s.account s ≡ held_in s.holds = ap (λ (b : Bool). cond {A = ℕ} b (held_in s.holds) 0) (same_number s.account) in
    omega arith

-- ---- what is kept, after a change

nothing : (b : Bool) → cond {A = ℕ} b 0 0 ≡ 0
nothing true = refl
nothing false = refl

pub IsKept-add : (es later : Rows) (ts : List ℕ) (id : List ℕ) (s : OpenSession) (v : ℕ) → IsKept es ts → id ≡ s.id → place_in (values_of es) s.id ≡ None
    → s.account < length ts
    → v ≡ get_or ts s.account 0 + held_in s.holds → later ≡ insert_entry same_session es id s
    → (values_of later ≡ values_of es ++ s ∷ []) × IsKept later (slice_set ts s.account v)
IsKept-add es later ts id s v kept own closed lt sum is =
    let entries : later ≡ es ++ (id, s) ∷ [] = is ∙ insert-new id s es (ap (place_in (values_of es)) own ∙ closed) kept.own in
    let sessions : values_of later ≡ values_of es ++ s ∷ [] = ap (λ (xs : Rows). values_of xs) entries ∙ values-push es id s in
    let long = length-set ts s.account v in (
      sessions,
      record {
        own = subst Own (sym entries) (own-push es id s own kept.own);
        known = subst (λ (n : ℕ). Known n (values_of later)) (sym long)
            (subst (Known (length ts)) (sym sessions) (known-push (length ts) (values_of es) s lt kept.known));
        summed = subst (AreTotals (slice_set ts s.account v)) (sym sessions)
            (totals-set ts (values_of es) (values_of es ++ s ∷ []) s.account v (held_in s.holds) 0 kept.summed lt (omega arith)
            (λ a. let none : cond {A = ℕ} (eqb s.account a) 0 0 ≡ 0 = nothing (eqb s.account a) in let more = reserved-push a (values_of es) s in omega arith));
      },
    )

pub IsKept-go_on : (es : Rows) (ts : List ℕ) (place : ℕ) (s : OpenSession) (v : ℕ) → IsKept es ts → (at : GoesOnAt (values_of es) place s)
    → v + held_in at.before.holds ≡ get_or ts s.account 0 + held_in s.holds → IsKept (set_value_at es place s) (slice_set ts s.account v)
IsKept-go_on es ts place s v kept at sum =
    let lt : s.account < length ts = subst (λ (n : ℕ). n < length ts) (sym at.account)
    (known-at (length ts) (values_of es) place at.before at.there kept.known) in
    let long = length-set ts s.account v in
    record {
      own = own-set es place s at.before at.there at.id kept.own;
      known = subst (λ (n : ℕ). Known n (values_of (set_value_at es place s))) (sym long)
          (subst (Known (length ts)) (sym (values-set es place s)) (known-set (length ts) (values_of es) place s lt kept.known));
      summed = subst (AreTotals (slice_set ts s.account v)) (sym (values-set es place s))
          (totals-set ts (values_of es) (slice_set (values_of es) place s) s.account v (held_in s.holds) (held_in at.before.holds) kept.summed lt sum
          (λ a. let moved = reserved-set a (values_of es) place s at.before at.there in
          let one = ap (λ (n : ℕ). cond {A = ℕ} (eqb n a) (held_in at.before.holds) 0) at.account in omega arith));
    }

pub IsKept-end : (es : Rows) (ts : List ℕ) (place : ℕ) (e : List ℕ × OpenSession) (v : ℕ) → IsKept es ts → slice_get es place ≡ Some e
    → v + held_in e.1.holds ≡ get_or ts e.1.account 0 → IsKept (without_at es place) (slice_set ts e.1.account v)
IsKept-end es ts place e v kept there sum =
    let at = values-at es place e there in
    let lt = known-at (length ts) (values_of es) place e.1 at kept.known in
    let long = length-set ts e.1.account v in
    record {
      own = own-without es place e there kept.own;
      known = subst (λ (n : ℕ). Known n (values_of (without_at es place))) (sym long)
          (subst (Known (length ts)) (sym (values-without es place e there)) (known-without (length ts) (values_of es) place e.1 at kept.known));
      summed = subst (AreTotals (slice_set ts e.1.account v)) (sym (values-without es place e there))
          (totals-set ts (values_of es) (without_at (values_of es) place) e.1.account v 0 (held_in e.1.holds) kept.summed lt (omega arith)
          (λ a. let none : cond {A = ℕ} (eqb e.1.account a) 0 0 ≡ 0 = nothing (eqb e.1.account a) in
          let moved = reserved-without a (values_of es) place e.1 at in omega arith));
    }

pub same_value : (x y : OpenSession) → Some x ≡ Some y → x ≡ y
same_value x y e = cc

-- the session at a place holds what the one does that is read there
pub held-there : (ss : List OpenSession) (place : ℕ) (read s : OpenSession) → slice_get ss place ≡ Some read → slice_get ss place ≡ Some s
    → held_in read.holds ≡ held_in s.holds
held-there ss place read s one other = ap (λ (x : OpenSession). held_in x.holds) (same_value read s (sym one ∙ other))

-- The total of the account of a session that goes on is what all sessions hold of it, and no less than what this one
-- holds.
pub total-there : (es : Rows) (ts : List ℕ) (place : ℕ) (s read : OpenSession) (total held : ℕ) → IsKept es ts → (at : GoesOnAt (values_of es) place s)
    → slice_get (values_of es) place ≡ Some read → total ≡ get_or ts s.account total → held ≡ held_in read.holds
    → (total ≡ reserved_in s.account (values_of es)) × (held ≡ held_in at.before.holds) × (held ≤ total)
total-there es ts place s read total held kept at there is holds =
    let lt : s.account < length ts = omega (arith, known-at (length ts) (values_of es) place at.before at.there kept.known, at.account) in
    let same : total ≡ reserved_in s.account (values_of es) = is ∙ get_or_default ts s.account total 0 lt ∙ kept.summed s.account in
    let before = holds ∙ held-there (values_of es) place read at.before there at.there in
    let own = held-total (values_of es) place at.before at.there in
    let mine = ap (λ (n : ℕ). reserved_in n (values_of es)) at.account in
    (same, before, omega arith)

-- ---- sessions that are looked at from the last place on, and end where they are due

module _ (validity : ℕ) (moment : Moment) where
  -- what is left of sessions, where those from a place on have been looked at
  abbrev pub left_at : ℕ → List OpenSession → List OpenSession
  left_at zero sessions = without_due validity moment sessions
  left_at (suc place) [] = []
  left_at (suc place) (session ∷ sessions) = session ∷ left_at place sessions

  -- those before the place stand where they stood
  pub left-there : (ss : List OpenSession) (place : ℕ) (s : OpenSession) → slice_get ss place ≡ Some s → slice_get (left_at (suc place) ss) place ≡ Some s
  left-there [] place s there = absurd cc
  left-there (x ∷ ss) zero s there = there
  left-there (x ∷ ss) (suc place) s there = left-there ss place s there

  pub left-kept : (ss : List OpenSession) (place : ℕ) (s : OpenSession) → slice_get ss place ≡ Some s → is_due validity moment s ≡ false
      → left_at place ss ≡ left_at (suc place) ss
  left-kept [] place s there lasts = absurd cc
  left-kept (x ∷ ss) zero s there lasts =
      let same : x ≡ s = same_value x s there in
      ap (λ (b : Bool). cond b (without_at (x ∷ without_due validity moment ss) 0) (x ∷ without_due validity moment ss)) (ap (is_due validity moment) same ∙ lasts)
  left-kept (x ∷ ss) (suc place) s there lasts = ap (λ (ys : List OpenSession). x ∷ ys) (left-kept ss place s there lasts)

  pub left-due : (ss : List OpenSession) (place : ℕ) (s : OpenSession) → slice_get ss place ≡ Some s → is_due validity moment s ≡ true
      → left_at place ss ≡ without_at (left_at (suc place) ss) place
  left-due [] place s there due = absurd cc
  left-due (x ∷ ss) zero s there due =
      let same : x ≡ s = same_value x s there in
      ap (λ (b : Bool). cond b (without_at (x ∷ without_due validity moment ss) 0) (x ∷ without_due validity moment ss)) (ap (is_due validity moment) same ∙ due)
  left-due (x ∷ ss) (suc place) s there due =
      ap (λ (ys : List OpenSession). x ∷ ys) (left-due ss place s there due)
      ∙ sym (without-behind x (left_at (suc place) ss) place s (left-there ss place s there))

  pub left-all : (ss : List OpenSession) (place : ℕ) → place ≡ length ss → left_at place ss ≡ ss
  left-all [] zero all = refl
  left-all [] (suc place) all = absurd (omega arith)
  left-all (x ∷ ss) zero all = absurd (omega arith)
  left-all (x ∷ ss) (suc place) all = ap (λ (ys : List OpenSession). x ∷ ys) (left-all ss place (omega arith))

  -- ---- one more of them is looked at

  pub left-within : (ss : List OpenSession) (place : ℕ) → 0 < place → place ≤ length ss → place - 1 < length (left_at place ss)
  left-within ss zero some within = absurd (omega arith)
  left-within [] (suc place) some within = absurd (omega arith)
  left-within (x ∷ ss) (suc zero) some within = omega arith
  left-within (x ∷ ss) (suc (suc place)) some within = let more = left-within ss (suc place) (omega arith) (omega arith) in omega arith

  -- the session that is looked at
  abbrev pub Looked : List OpenSession → ℕ → Bool → Type 0
  Looked ss place due = (s : OpenSession) → slice_get (left_at place ss) (place - 1) ≡ Some s → is_due validity moment s ≡ due

  at_next : (ss : List OpenSession) (place : ℕ) → place < length ss
      → (s : OpenSession) × (slice_get ss place ≡ Some s) × (slice_get (left_at (suc place) ss) (suc place - 1) ≡ Some s)
  at_next [] place within = absurd (omega arith)
  at_next (x ∷ ss) place within =
      let s = get_or (x ∷ ss) place x in
      let there = slice_get-get_or (x ∷ ss) place x within in
      let back : place ≡ suc place - 1 = omega arith in
      (s, there, subst (λ (n : ℕ). slice_get (left_at (suc place) (x ∷ ss)) n ≡ Some s) back (left-there (x ∷ ss) place s there))

  pub next-kept : (ss : List OpenSession) (place : ℕ) → 0 < place → place ≤ length ss → Looked ss place false → left_at place ss ≡ left_at (place - 1) ss
  next-kept ss zero some within looked = absurd (omega arith)
  next-kept ss (suc place) some within looked =
      let at = at_next ss place (omega arith) in
      let back : place ≡ suc place - 1 = omega arith in
      sym (left-kept ss place at.0 at.1 (looked at.0 at.2)) ∙ ap (λ (n : ℕ). left_at n ss) back

  pub next-due : (ss : List OpenSession) (place : ℕ) → 0 < place → place ≤ length ss → Looked ss place true
      → without_at (left_at place ss) (place - 1) ≡ left_at (place - 1) ss
  next-due ss zero some within looked = absurd (omega arith)
  next-due ss (suc place) some within looked =
      let at = at_next ss place (omega arith) in
      let back : place ≡ suc place - 1 = omega arith in
      ap (λ (n : ℕ). without_at (left_at (suc place) ss) n) (sym back) ∙ sym (left-due ss place at.0 at.1 (looked at.0 at.2)) ∙ ap (λ (n : ℕ). left_at n ss) back

pub reserved-less : (ss : List OpenSession) (place : ℕ) (a : ℕ) → place < length ss → reserved_in a (without_at ss place) ≤ reserved_in a ss
reserved-less [] place a within = absurd (omega arith)
reserved-less (x ∷ ss) place a within =
    let all = reserved-without a (x ∷ ss) place (get_or (x ∷ ss) place x) (slice_get-get_or (x ∷ ss) place x within) in omega arith

-- ---- the moments of their last requests

pub lasts-push : (ss : List OpenSession) (s : OpenSession) → lasts_of ss ++ s.last ∷ [] ≡ lasts_of (ss ++ s ∷ [])
lasts-push ss s = sym (map-append (λ (x : OpenSession). x.last) ss (s ∷ []))

pub lasts-set : (ss : List OpenSession) (place : ℕ) (s : OpenSession) → slice_set (lasts_of ss) place s.last ≡ lasts_of (slice_set ss place s)
lasts-set ss place s = sym (map-set (λ (x : OpenSession). x.last) ss place s)

pub lasts-without : (ss : List OpenSession) (place : ℕ) (s : OpenSession) → slice_get ss place ≡ Some s → without_at (lasts_of ss) place ≡ lasts_of (without_at ss place)
lasts-without ss place s there = sym (map-without (λ (x : OpenSession). x.last) ss place s there)

-- the moments of those that are left, where one of them was taken out that is read at the place
pub lasts-left : (ss now : List OpenSession) (lasts left : List Moment) (place : ℕ) (s : OpenSession) (read : Moment) → lasts ≡ lasts_of ss
    → slice_get ss place ≡ Some s → now ≡ without_at ss place
    → read ≡ get_or lasts place read → left ≡ swap_remove lasts place read → left ≡ lasts_of now
lasts-left ss now lasts left place s read is there gone value taken =
    let within = slice_get_within ss place s there in
    let long = length-map ss (λ (x : OpenSession). x.last) in
    let lt : place < length lasts = omega (arith, ap length is) in
    let here : slice_get lasts place ≡ Some read = slice_get-get_or lasts place read lt ∙ ap Some (sym value) in
    taken ∙ sym (without-is lasts place read here) ∙ ap (λ (l : List Moment). without_at l place) is ∙ lasts-without ss place s there ∙ sym (ap lasts_of gone)

pub lasts-long : (kept ss : List OpenSession) (lasts : List Moment) → kept ≡ ss → lasts ≡ lasts_of kept → length lasts ≡ length ss
lasts-long kept ss lasts items is = ap length is ∙ length-map kept (λ (x : OpenSession). x.last) ∙ ap length items
