-- Whatever a process does, its node is told of each connection in turn.
use Rattle.std.proofs.Common.{◌≡◌, ◌≢◌, ℕ, ◌+◌, ◌<◌, ◌≤◌, eqb, cond, Bool, true, false, List, [], ◌∷◌, ◌++◌, Result, Ok, Err, refl, sym, subst, ap, ◌∙◌, arith}
use Rattle.std.specs.List.{fold}
use Rattle.std.proofs.lemmas.Bool.{eq-eqb, eqb-false, eqb-true, ne_eqb}
use Rattle.std.proofs.lemmas.List.{append_assoc, append-nil}
use Rattle.dia_message.specs.Traffic.{Traffic}
use Rattle.farm_node.specs.Events.{NodeEvent, up, message, leaving, lost, tick, wake}
use Rattle.farm_node.specs.declared.error.NodeError.{NodeError}
use Rattle.farm_connections.specs.declared.link.Standing.{Standing}
use Rattle.farm_connections.specs.declared.link.Standing.TheVariants.{Waiting, Up, Over}
use Rattle.farm_connections.specs.Turns.{Mark, Kept, Told, Goes, AreRising, Turn, before, during, after, broken, beginning, told_of, standing_as, IsOfNone, IsInTurn, turn_of, after_told, after_event, after_up, after_message, after_leaving, after_lost}
use Rattle.farm_connections.specs.Turns.{rests, comes_up, is_refused, hears, leaves, ends, wakes, makes, lets_go}

-- ---- one more thing is told

fold_more : {A B : Type 0} (f : B → A → B) (z : B) (xs : List A) (x : A) → fold f z (xs ++ x ∷ []) ≡ f (fold f z xs) x
fold_more f z [] x = refl
fold_more f z (y ∷ xs) x = fold_more f (f z y) xs x

turn_more : (conn : ℕ) (told : List Told) (event : NodeEvent) (outcome : Result (Unit {0}) NodeError)
    → turn_of conn (told ++ told_of event outcome) ≡ after_event conn (turn_of conn told) event outcome
turn_more conn told event outcome = fold_more (after_told conn) before told _

-- ---- what stands while a process goes on

abbrev pub turn_for : Standing → Turn
turn_for Waiting = before
turn_for (Up peer) = during
turn_for (Over peer) = after

-- of connections above this number, in rising order, the standing is whose turn it is
abbrev pub Agree : ℕ → List Told → ℕ → List Mark → Type 0
Agree made told low [] = Unit {0}
Agree made told low (mark ∷ marks) = (low < mark.id.0) × (mark.id.0 ≤ made) × (turn_of mark.id.0 told ≡ turn_for mark.standing)
    × Agree made told mark.id.0 marks

pub record Stands {N : Type 0} (told : List Told) (kept : Kept N) : Type 0 where
  pub agree : Agree kept.made told 0 kept.marks
  pub fresh : (conn : ℕ) → kept.made < conn → turn_of conn told ≡ before
  pub sound : IsInTurn told

-- those above stay as they were
above : (made : ℕ) (told then : List Told) (low : ℕ) (marks : List Mark) → ((conn : ℕ) → low < conn → turn_of conn then ≡ turn_of conn told)
    → Agree made told low marks → Agree made then low marks
above made told then low [] same a = tt
above made told then low (mark ∷ marks) same a =
    (a.0, a.1, same mark.id.0 a.0 ∙ a.2, above made told then mark.id.0 marks (λ conn lt. same conn (omega (arith, a.0, lt))) a.3)

-- the one in the middle is above this number
is_above : (made : ℕ) (told : List Told) (low : ℕ) (front back : List Mark) (mark : Mark) → Agree made told low (front ++ mark ∷ back) → low < mark.id.0
is_above made told low [] back mark a = a.0
is_above made told low (first ∷ front) back mark a = omega (arith, a.0, is_above made told first.id.0 front back mark a.3)

is_below : (made : ℕ) (told : List Told) (low : ℕ) (front back : List Mark) (mark : Mark) → Agree made told low (front ++ mark ∷ back) → mark.id.0 ≤ made
is_below made told low [] back mark a = a.1
is_below made told low (first ∷ front) back mark a = is_below made told first.id.0 front back mark a.3

turn_there : (made : ℕ) (told : List Told) (low : ℕ) (front back : List Mark) (mark : Mark) → Agree made told low (front ++ mark ∷ back)
    → turn_of mark.id.0 told ≡ turn_for mark.standing
turn_there made told low [] back mark a = a.2
turn_there made told low (first ∷ front) back mark a = turn_there made told first.id.0 front back mark a.3

-- the one in the middle is told of, and no other
told_of_one : (made : ℕ) (told then : List Told) (low : ℕ) (front back : List Mark) (mark : Mark) (standing : Standing)
    → ((conn : ℕ) → conn ≢ mark.id.0 → turn_of conn then ≡ turn_of conn told)
    → turn_of mark.id.0 then ≡ turn_for standing → Agree made told low (front ++ mark ∷ back) → Agree made then low (front ++ standing_as mark standing ∷ back)
told_of_one made told then low [] back mark standing same turn a =
    (a.0, a.1, turn, above made told then mark.id.0 back (λ conn lt. same conn (λ e. absurd (omega (arith, lt, e)))) a.3)
told_of_one made told then low (first ∷ front) back mark standing same turn a =
    let higher = is_above made told first.id.0 front back mark a.3 in
    (a.0, a.1, same first.id.0 (λ e. absurd (omega (arith, higher, e))) ∙ a.2, told_of_one made told then first.id.0 front back mark standing same turn a.3)

-- a number that none had
made_more : (made : ℕ) (told : List Told) (low : ℕ) (marks : List Mark) (mark : Mark) → low ≤ made → mark.id.0 ≡ made + 1
    → turn_of mark.id.0 told ≡ turn_for mark.standing
    → Agree made told low marks → Agree (made + 1) told low (marks ++ mark ∷ [])
made_more made told low [] mark le is turn a = (omega (arith, le, is), omega (arith, is), turn, tt)
made_more made told low (first ∷ marks) mark le is turn a = (a.0, omega (arith, a.1), a.2, made_more made told first.id.0 marks mark a.1 is turn a.3)

lower : (made : ℕ) (told : List Told) (low high : ℕ) (marks : List Mark) → low ≤ high → Agree made told high marks → Agree made told low marks
lower made told low high [] le a = tt
lower made told low high (mark ∷ marks) le a = (omega (arith, le, a.0), a.1, a.2, a.3)

without_one : (made : ℕ) (told : List Told) (low : ℕ) (front back : List Mark) (mark : Mark) → Agree made told low (front ++ mark ∷ back)
    → Agree made told low (front ++ back)
without_one made told low [] back mark a = lower made told low mark.id.0 back (omega (arith, a.0)) a.3
without_one made told low (first ∷ front) back mark a = (a.0, a.1, a.2, without_one made told first.id.0 front back mark a.3)

-- ---- one step

-- what a standing stands for is never out of turn
never : (standing : Standing) → turn_for standing ≢ broken
never Waiting = λ e. absurd cc
never (Up peer) = λ e. absurd cc
never (Over peer) = λ e. absurd cc

-- after something was told of the connection of this number
abbrev Moves : ℕ → (Turn → Turn) → List Told → List Told → Type 0
Moves id f told then = (conn : ℕ) → turn_of conn then ≡ cond (eqb id conn) (f (turn_of conn told)) (turn_of conn told)

moves_elsewhere : (id : ℕ) (f : Turn → Turn) (told then : List Told) → Moves id f told then → (conn : ℕ) → conn ≢ id → turn_of conn then ≡ turn_of conn told
moves_elsewhere id f told then moves conn ne =
    moves conn ∙ ap (λ (b : Bool). cond b (f (turn_of conn told)) (turn_of conn told)) (ne_eqb id conn (λ e. ne (sym e)))

moves_there : (id : ℕ) (f : Turn → Turn) (told then : List Told) → Moves id f told then → turn_of id then ≡ f (turn_of id told)
moves_there id f told then moves = moves id ∙ ap (λ (b : Bool). cond b (f (turn_of id told)) (turn_of id told)) (eq-eqb id id refl)

sound_at : (id : ℕ) (told then : List Told) (conn : ℕ) → ((other : ℕ) → other ≢ id → turn_of other then ≡ turn_of other told) → turn_of id then ≢ broken
    → IsInTurn told → (b : Bool) → eqb id conn ≡ b → turn_of conn then ≢ broken
sound_at id told then conn other there sound true e = subst (λ (c : ℕ). turn_of c then ≢ broken) (eqb-true id conn e) there
sound_at id told then conn other there sound false e = λ broke. sound conn (sym (other conn (λ same. eqb-false id conn e (sym same))) ∙ broke)

one_step : {N : Type 0} (node next : N) (told then : List Told) (front back : List Mark) (made : ℕ) (mark : Mark) (standing : Standing) (f : Turn → Turn)
    → Moves mark.id.0 f told then → f (turn_for mark.standing) ≡ turn_for standing
    → Stands {N = N} told (record { node = node; marks = front ++ mark ∷ back; made = made })
    → Stands {N = N} then (record { node = next; marks = front ++ standing_as mark standing ∷ back; made = made })
one_step node next told then front back made mark standing f moves goes s =
    let other = moves_elsewhere mark.id.0 f told then moves in
    let there = moves_there mark.id.0 f told then moves ∙ ap f (turn_there made told 0 front back mark s.agree) ∙ goes in
    record {
      agree = told_of_one made told then 0 front back mark standing other there s.agree;
      fresh = λ conn lt. other conn (λ e. absurd (omega (arith, lt, e, is_below made told 0 front back mark s.agree))) ∙ s.fresh conn lt;
      sound = λ conn. sound_at mark.id.0 told then conn other (λ broke. never standing (sym there ∙ broke)) s.sound (eqb mark.id.0 conn) refl;
    }

-- what is of no connection moves no turn
of_none : (event : NodeEvent) (outcome : Result (Unit {0}) NodeError) (conn : ℕ) (turn : Turn) → IsOfNone event → after_event conn turn event outcome ≡ turn
of_none (up local peer id) outcome conn turn h = absurd h
of_none (message id m) outcome conn turn h = absurd h
of_none (leaving id) outcome conn turn h = absurd h
of_none (lost id) outcome conn turn h = absurd h
of_none (tick moment) outcome conn turn h = refl
of_none wake outcome conn turn h = refl

nothing_moves : {N : Type 0} (node next : N) (told then : List Told) (marks : List Mark) (made : ℕ) → ((conn : ℕ) → turn_of conn then ≡ turn_of conn told)
    → Stands {N = N} told (record { node = node; marks = marks; made = made }) → Stands {N = N} then (record { node = next; marks = marks; made = made })
nothing_moves node next told then marks made same s = record {
  agree = above made told then 0 marks (λ conn lt. same conn) s.agree;
  fresh = λ conn lt. same conn ∙ s.fresh conn lt;
  sound = λ conn broke. s.sound conn (sym (same conn) ∙ broke);
}

-- ---- all steps

pub stands : {N : Type 0} {On : N → NodeEvent → Traffic → Result (Unit {0}) NodeError → N → Type 0} (node : N) (told : List Told) (kept : Kept N)
    → Goes On (beginning node) told kept → Stands told kept
stands node _ _ rests = record { agree = tt; fresh = λ conn lt. refl; sound = λ conn e. absurd cc }
stands node _ _ (comes_up told now next front back made mark peer sent goes waits may does) =
    one_step now next told _ front back made mark (Up peer) (λ turn. after_up turn (Ok tt)) (λ conn. turn_more conn told _ _)
    (ap (λ (s : Standing). after_up (turn_for s) (Ok tt)) waits) (stands node told _ goes)
stands node _ _ (is_refused told now next front back made mark peer sent error goes waits may does) =
    one_step now next told _ front back made mark (Over peer) (λ turn. after_up turn (Err error)) (λ conn. turn_more conn told _ _)
    (ap (λ (s : Standing). after_up (turn_for s) (Err error)) waits) (stands node told _ goes)
stands node _ _ (hears told now next front back made mark peer m sent outcome goes is_up does) =
    one_step now next told _ front back made mark mark.standing after_message (λ conn. turn_more conn told _ _)
    (ap (λ (s : Standing). after_message (turn_for s)) is_up ∙ ap turn_for (sym is_up)) (stands node told _ goes)
stands node _ _ (leaves told now next front back made mark peer sent outcome goes is_up does) =
    one_step now next told _ front back made mark mark.standing after_leaving (λ conn. turn_more conn told _ _)
    (ap (λ (s : Standing). after_leaving (turn_for s)) is_up ∙ ap turn_for (sym is_up)) (stands node told _ goes)
stands node _ _ (ends told now next front back made mark peer sent outcome goes is_up does) =
    one_step now next told _ front back made mark (Over peer) after_lost (λ conn. turn_more conn told _ _)
    (ap (λ (s : Standing). after_lost (turn_for s)) is_up) (stands node told _ goes)
stands node _ _ (wakes told now next marks made event sent outcome goes none does) =
    nothing_moves now next told _ marks made (λ conn. turn_more conn told event outcome ∙ of_none event outcome conn (turn_of conn told) none)
    (stands node told _ goes)
stands node _ _ (makes told now marks made local accepted barred names goes) =
    let s = stands node told _ goes in
    record {
      agree = made_more made told 0 marks _ (omega arith) refl (s.fresh (made + 1) (omega arith)) s.agree;
      fresh = λ conn lt. s.fresh conn (omega (arith, lt));
      sound = s.sound;
    }
stands node _ _ (lets_go told now front back made mark goes down) =
    let s = stands node told _ goes in
    record { agree = without_one made told 0 front back mark s.agree; fresh = s.fresh; sound = s.sound }

pub in_turn : {N : Type 0} {On : N → NodeEvent → Traffic → Result (Unit {0}) NodeError → N → Type 0} (node : N) (told : List Told) (kept : Kept N)
    → Goes On (beginning node) told kept → IsInTurn told
in_turn node told kept goes = (stands node told kept goes).sound

rising : (made : ℕ) (told : List Told) (low : ℕ) (marks : List Mark) → Agree made told low marks → AreRising low marks
rising made told low [] a = tt
rising made told low (mark ∷ marks) a = (a.0, rising made told mark.id.0 marks a.3)

pub in_order : {N : Type 0} {On : N → NodeEvent → Traffic → Result (Unit {0}) NodeError → N → Type 0} (node : N) (told : List Told) (kept : Kept N)
    → Goes On (beginning node) told kept → AreRising 0 kept.marks
in_order node told kept goes = rising kept.made told 0 kept.marks (stands node told kept goes).agree

-- ---- one way behind another

retell : {N : Type 0} {On : N → NodeEvent → Traffic → Result (Unit {0}) NodeError → N → Type 0} {first last : Kept N} {old new : List Told} → old ≡ new
    → Goes On first old last → Goes On first new last
retell {N} {On} {first} {last} same goes = subst (λ (told : List Told). Goes On first told last) same goes

pub goes_then : {N : Type 0} {On : N → NodeEvent → Traffic → Result (Unit {0}) NodeError → N → Type 0} {first mid : Kept N} {told : List Told}
    (more : List Told) (last : Kept N) → Goes On first told mid → Goes On mid more last → Goes On first (told ++ more) last
goes_then {N} {On} {first} {mid} {told} _ _ way rests = retell (sym (append-nil told)) way
goes_then {N} {On} {first} {mid} {told} _ _ way (comes_up more node next front back made mark peer sent goes waits may does) =
    retell (append_assoc told more _) (comes_up _ node next front back made mark peer sent (goes_then more _ way goes) waits may does)
goes_then {N} {On} {first} {mid} {told} _ _ way (is_refused more node next front back made mark peer sent error goes waits may does) =
    retell (append_assoc told more _) (is_refused _ node next front back made mark peer sent error (goes_then more _ way goes) waits may does)
goes_then {N} {On} {first} {mid} {told} _ _ way (hears more node next front back made mark peer m sent outcome goes is_up does) =
    retell (append_assoc told more _) (hears _ node next front back made mark peer m sent outcome (goes_then more _ way goes) is_up does)
goes_then {N} {On} {first} {mid} {told} _ _ way (leaves more node next front back made mark peer sent outcome goes is_up does) =
    retell (append_assoc told more _) (leaves _ node next front back made mark peer sent outcome (goes_then more _ way goes) is_up does)
goes_then {N} {On} {first} {mid} {told} _ _ way (ends more node next front back made mark peer sent outcome goes is_up does) =
    retell (append_assoc told more _) (ends _ node next front back made mark peer sent outcome (goes_then more _ way goes) is_up does)
goes_then {N} {On} {first} {mid} {told} _ _ way (wakes more node next marks made event sent outcome goes none does) =
    retell (append_assoc told more _) (wakes _ node next marks made event sent outcome (goes_then more _ way goes) none does)
goes_then {N} {On} {first} {mid} {told} _ _ way (makes more node marks made local accepted barred names goes) =
    makes _ node marks made local accepted barred names (goes_then more _ way goes)
goes_then {N} {On} {first} {mid} {told} _ _ way (lets_go more node front back made mark goes down) =
    lets_go _ node front back made mark (goes_then more _ way goes) down
