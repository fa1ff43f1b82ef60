-- What records tell, what has passed and what is awaited stay in accord.
use Rattle.std.proofs.Common.{◌≡◌, ℕ, zero, suc, Bool, true, false, if◌then◌else◌, List, [], ◌∷◌, ◌++◌, Option, Some, None, Result, Ok, Err, is_some, IfOk, OnErr, replicate, refl, sym, ap, ◌∙◌, append_assoc, true≢false}
use Rattle.std.specs.Prelude.{IsTrue, cond, slice_get}
use Rattle.std.proofs.lemmas.List.{append-nil}
use Rattle.std.proofs.lemmas.List.Elements.{filter-append}
use Rattle.dia_base.specs.declared.number.NodeNo.{NodeNo}
use Rattle.farm_base.specs.Nodes.{is_node}
use Rattle.farm_base.specs.declared.step.Step.{Step}
use Rattle.farm_model.proofs.Lists.Numbering.{same_node, is_same_node, node_itself, nodes_turned}
use Rattle.farm_player.specs.Awaiting.{AwaitedList, is_settled, told_at, told_in, with_told, without_first, IsChangedAt, IsNext}
use Rattle.farm_player.specs.Passing.{Passage, passage_of, passed_at, passed_by}
use Rattle.farm_player.specs.PlayedRun.{IsPlayed, PlayedState, PlaysStep}
use Rattle.farm_player.specs.Reconciling.{Agrees, IsDue, IsReconciled, IsToldNext, Reconciling, accounted}
use Rattle.farm_player.specs.declared.reconciled.Due.TheVariants.{Free, Next}

-- ---- what has passed at a node

more_at : (node : NodeNo) (xs ys : List Passage) → passed_at node (xs ++ ys) ≡ passed_at node xs ++ passed_at node ys
more_at node xs ys = filter-append (λ passage. is_node passage.0.node node) xs ys

one_here : (node : NodeNo) (p : Passage) → is_node p.0.node node ≡ true → passed_at node (p ∷ []) ≡ p ∷ []
one_here node p e = ap (λ (b : Bool). cond b (p ∷ []) []) e

one_elsewhere : (node : NodeNo) (p : Passage) → is_node p.0.node node ≡ false → passed_at node (p ∷ []) ≡ []
one_elsewhere node p e = ap (λ (b : Bool). cond b (p ∷ []) []) e

-- ---- what is accounted for

-- what passes, and not at this node
accounted_quiet : (node : NodeNo) (passed more : List Passage) (told : Option (List Passage)) → (is_some told ≡ true → passed_at node more ≡ []) → accounted node
    (passed ++ more) told ≡ accounted node passed told
accounted_quiet node passed more None quiet = refl
accounted_quiet node passed more (Some awaited) quiet =
    ap (λ (xs : List Passage). xs ++ awaited) (more_at node passed more ∙ ap (λ (ys : List Passage). passed_at node passed ++ ys) (quiet refl) ∙ append-nil (passed_at node passed))

-- what was awaited passes
accounted_next : (node : NodeNo) (passed : List Passage) (p : Passage) (rest : List Passage) → is_node p.0.node node ≡ true → accounted node (passed ++ p ∷ []) (Some rest) ≡
    accounted node passed (Some (p ∷ rest))
accounted_next node passed p rest here =
    ap (λ (xs : List Passage). xs ++ rest) (more_at node passed (p ∷ []) ∙ ap (λ (ys : List Passage). passed_at node passed ++ ys) (one_here node p here))
    ∙ append_assoc (passed_at node passed) (p ∷ []) rest

-- ---- what is due

pub due_none : (r : Reconciling) (step : Step) → passage_of r.farm.world step ≡ [] → IsDue r step Free
due_none r step none node watched = ap (passed_at node) none

pub due_unwatched : (r : Reconciling) (step : Step) (p : Passage) → passage_of r.farm.world step ≡ p ∷ [] → is_some (told_at p.0.node r.awaited) ≡ false → IsDue r step Free
due_unwatched r step p is unwatched node watched = ap (passed_at node) is ∙ go (is_node p.0.node node) refl
  where
    go : (b : Bool) → is_node p.0.node node ≡ b → passed_at node (p ∷ []) ≡ []
    go false apart = one_elsewhere node p apart
    go true same = absurd (true≢false (sym watched ∙ ap (λ (n : NodeNo). is_some (told_at n r.awaited)) (sym (same_node p.0.node node same)) ∙ unwatched))

pub due_next : (r : Reconciling) (step : Step) (p : Passage) → passage_of r.farm.world step ≡ p ∷ [] → IsNext p (told_at p.0.node r.awaited) → IsDue r step (Next p.0.node)
due_next r step p is next = record { passage = p; rest = next.0; passes = is; here = node_itself p.0.node; awaits = next.1 }

-- ---- a step

abbrev with_farm : Reconciling → PlayedState → AwaitedList → Reconciling
with_farm r farm awaited = record { farm = farm; told = r.told; awaited = awaited }

-- what a step leaves of a farm
whole_before : (old new : PlayedState) (step : Step) (applied : Bool) → PlaysStep old step applied new → new.is_whole ≡ old.is_whole
whole_before old new step applied plays = ap (λ (s : PlayedState). s.is_whole) plays.leaves

passed_then : (old new : PlayedState) (step : Step) (applied : Bool) → PlaysStep old step applied new → new.passed ≡ old.passed ++ passed_by old.world step applied
passed_then old new step applied plays = ap (λ (s : PlayedState). s.passed) plays.leaves

-- nothing of it passes at a node that is watched
by_free : (r : Reconciling) (step : Step) (applied : Bool) → IsDue r step Free → (node : NodeNo) → is_some (told_at node r.awaited) ≡ true → passed_at node
    (passed_by r.farm.world step applied) ≡ []
by_free r step true free node watched = free node watched
by_free r step false free node watched = refl

free_applied : (r : Reconciling) (new : PlayedState) (step : Step) (applied : Bool) → IsReconciled r → IsDue r step Free → PlaysStep r.farm step applied new → IsReconciled
    (with_farm r new r.awaited)
free_applied r new step applied kept free plays whole node =
    kept (sym (whole_before r.farm new step applied plays) ∙ whole) node
    ∙ sym (accounted_quiet node r.farm.passed (passed_by r.farm.world step applied) (told_at node r.awaited) (by_free r step applied free node))
    ∙ ap (λ (passed : List Passage). accounted node passed (told_at node r.awaited)) (sym (passed_then r.farm new step applied plays))

not_whole : (r : Reconciling) (new : PlayedState) (awaited : AwaitedList) → new.is_whole ≡ false → IsReconciled (with_farm r new awaited)
not_whole r new awaited broken whole = absurd (true≢false (sym whole ∙ broken))

pub reconciled_free : {E : Type 0} (r : Reconciling) (new : PlayedState) (step : Step) (result : Result Bool E) → IsReconciled r → IsDue r step Free → IfOk result
    (λ applied. PlaysStep r.farm step applied new) → OnErr result (new.is_whole ≡ false) → IsReconciled (with_farm r new r.awaited)
reconciled_free r new step (Ok applied) kept free ok err = free_applied r new step applied kept free ok
reconciled_free r new step (Err e) kept free ok err = not_whole r new r.awaited err

-- what was told passes
module _ (r : Reconciling) (new : PlayedState) (awaited : AwaitedList) (step : Step) (node : NodeNo) where
  next_applied : IsReconciled r → IsToldNext r step node → PlaysStep r.farm step true new → IsChangedAt node (without_first (told_at node r.awaited)) r.awaited awaited
      → IsReconciled (with_farm r new awaited)
  next_applied kept due plays changed whole other = kept (sym (whole_before r.farm new step true plays) ∙ whole) other ∙ go (is_node other node) refl
    where
      has_passed : new.passed ≡ r.farm.passed ++ due.passage ∷ []
      has_passed = passed_then r.farm new step true plays ∙ ap (λ (more : List Passage). r.farm.passed ++ more) due.passes

      go : (b : Bool) → is_node other node ≡ b → accounted other r.farm.passed (told_at other r.awaited) ≡ accounted other new.passed (told_at other awaited)
      go true same =
          let is : other ≡ node = same_node other node same in
          let here : is_node due.passage.0.node other ≡ true = ap (λ (n : NodeNo). is_node due.passage.0.node n) is ∙ due.here in
          let was : told_at other r.awaited ≡ Some (due.passage ∷ due.rest) = ap (λ (n : NodeNo). told_at n r.awaited) is ∙ due.awaits in
          let now : told_at other awaited ≡ Some due.rest =
          changed other ∙ ap (λ (b : Bool). if b then without_first (told_at node r.awaited) else told_at other r.awaited) same ∙ ap without_first due.awaits in
          ap (accounted other r.farm.passed) was
          ∙ sym (accounted_next other r.farm.passed due.passage due.rest here)
          ∙ ap (λ (passed : List Passage). accounted other passed (Some due.rest)) (sym has_passed)
          ∙ ap (accounted other new.passed) (sym now)
      go false apart =
          let elsewhere : is_node due.passage.0.node other ≡ false =
          ap (λ (n : NodeNo). is_node n other) (same_node due.passage.0.node node due.here) ∙ nodes_turned other node apart in
          let now : told_at other awaited ≡ told_at other r.awaited =
          changed other ∙ ap (λ (b : Bool). if b then without_first (told_at node r.awaited) else told_at other r.awaited) apart in
          sym (accounted_quiet other r.farm.passed (due.passage ∷ []) (told_at other r.awaited) (λ watched. one_elsewhere other due.passage elsewhere))
          ∙ ap (λ (passed : List Passage). accounted other passed (told_at other r.awaited)) (sym has_passed)
          ∙ ap (accounted other new.passed) (sym now)

  next_refused : IsReconciled r → PlaysStep r.farm step false new → awaited ≡ r.awaited → IsReconciled (with_farm r new awaited)
  next_refused kept plays stays whole other =
      kept (sym (whole_before r.farm new step false plays) ∙ whole) other
      ∙ ap (λ (passed : List Passage). accounted other passed (told_at other r.awaited)) (sym (append-nil r.farm.passed) ∙ sym (passed_then r.farm new step false plays))
      ∙ ap (λ (told : AwaitedList). accounted other new.passed (told_at other told)) (sym stays)

  next_by : (applied : Bool) → IsReconciled r → IsToldNext r step node → PlaysStep r.farm step applied new
      → (IsTrue applied → IsChangedAt node (without_first (told_at node r.awaited)) r.awaited awaited) → (applied ≡ false → awaited ≡ r.awaited)
      → IsReconciled (with_farm r new awaited)
  next_by true kept due plays changed stays = next_applied kept due plays (changed refl)
  next_by false kept due plays changed stays = next_refused kept plays (stays refl)

  pub reconciled_next : {E : Type 0} (result : Result Bool E) → IsReconciled r → IsToldNext r step node → IfOk result (λ applied. PlaysStep r.farm step applied new)
      → OnErr result (new.is_whole ≡ false)
      → IfOk result (λ applied. IsTrue applied → IsChangedAt node (without_first (told_at node r.awaited)) r.awaited awaited)
      → IfOk result (λ applied. applied ≡ false → awaited ≡ r.awaited) → IsReconciled (with_farm r new awaited)
  reconciled_next (Ok applied) kept due ok err changed stays = next_by applied kept due ok changed stays
  reconciled_next (Err e) kept due ok err changed stays = not_whole r new awaited err

-- ---- what is told, and who is watched

told_none : (count place : ℕ) → told_in (slice_get (replicate count None) place) ≡ None
told_none zero zero = refl
told_none zero (suc place) = refl
told_none (suc count) zero = refl
told_none (suc count) (suc place) = told_none count place

pub reconciled_open : (farm : PlayedState) (told : List Passage) (awaited : AwaitedList) (count : ℕ) → told ≡ [] → awaited ≡ replicate count None → IsReconciled
    (record { farm = farm; told = told; awaited = awaited })
reconciled_open farm told awaited count none unwatched whole node =
    ap (passed_at node) none
    ∙ sym (ap (accounted node farm.passed) (ap (λ (all : AwaitedList). told_at node all) unwatched ∙ told_none count node.0))

-- before the first step a node is watched of which nothing was told
pub reconciled_watch : (r : Reconciling) (awaited : AwaitedList) (node : NodeNo) → IsReconciled r → is_some (told_at node r.awaited) ≡ false → r.farm.passed ≡ []
    → IsChangedAt node (Some []) r.awaited awaited → IsReconciled (with_farm r r.farm awaited)
reconciled_watch r awaited node kept unwatched quiet changed whole other = kept whole other ∙ go (is_node other node) refl
  where
    unaccounted : (told : Option (List Passage)) → is_some told ≡ false → accounted other r.farm.passed told ≡ []
    unaccounted None e = refl
    unaccounted (Some told) e = absurd (true≢false e)

    go : (b : Bool) → is_node other node ≡ b → accounted other r.farm.passed (told_at other r.awaited) ≡ accounted other r.farm.passed (told_at other awaited)
    go true same =
        let is : other ≡ node = same_node other node same in
        let was = ap (λ (n : NodeNo). is_some (told_at n r.awaited)) is ∙ unwatched in
        let now : told_at other awaited ≡ Some [] =
        changed other ∙ ap (λ (b : Bool). if b then Some [] else told_at other r.awaited) same in
        unaccounted (told_at other r.awaited) was
        ∙ sym (append-nil (passed_at other r.farm.passed) ∙ ap (passed_at other) quiet)
        ∙ ap (accounted other r.farm.passed) (sym now)
    go false apart =
        ap (accounted other r.farm.passed) (sym (changed other ∙ ap (λ (b : Bool). if b then Some [] else told_at other r.awaited) apart))

-- a message more is told of a node that is watched
pub reconciled_told : (r : Reconciling) (told : List Passage) (awaited : AwaitedList) (p : Passage) → IsReconciled r → is_some (told_at p.0.node r.awaited) ≡ true
    → told ≡ r.told ++ p ∷ [] → IsChangedAt p.0.node (with_told p (told_at p.0.node r.awaited)) r.awaited awaited
    → IsReconciled (record { farm = r.farm; told = told; awaited = awaited })
reconciled_told r told awaited p kept watched more changed whole other =
    ap (passed_at other) more ∙ more_at other r.told (p ∷ []) ∙ ap (λ (xs : List Passage). xs ++ passed_at other (p ∷ [])) (kept whole other) ∙ go (is_node other p.0.node) refl
  where
    joins : (told : Option (List Passage)) → is_some told ≡ true → accounted other r.farm.passed told ++ p ∷ [] ≡ accounted other r.farm.passed (with_told p told)
    joins None e = absurd (true≢false (sym e))
    joins (Some all) e = append_assoc (passed_at other r.farm.passed) all (p ∷ [])

    go : (b : Bool) → is_node other p.0.node ≡ b → accounted other r.farm.passed (told_at other r.awaited) ++ passed_at other (p ∷ []) ≡ accounted other r.farm.passed
        (told_at other awaited)
    go true same =
        let is : other ≡ p.0.node = same_node other p.0.node same in
        let here : is_node p.0.node other ≡ true = is_same_node p.0.node other (sym is) in
        let watches : is_some (told_at other r.awaited) ≡ true = ap (λ (n : NodeNo). is_some (told_at n r.awaited)) is ∙ watched in
        let now : told_at other awaited ≡ with_told p (told_at other r.awaited) =
        changed other
        ∙ ap (λ (b : Bool). if b then with_told p (told_at p.0.node r.awaited) else told_at other r.awaited) same
        ∙ ap (λ (n : NodeNo). with_told p (told_at n r.awaited)) (sym is) in
        ap (λ (xs : List Passage). accounted other r.farm.passed (told_at other r.awaited) ++ xs) (one_here other p here)
        ∙ joins (told_at other r.awaited) watches
        ∙ ap (accounted other r.farm.passed) (sym now)
    go false apart =
        let elsewhere : is_node p.0.node other ≡ false = nodes_turned other p.0.node apart in
        ap (λ (xs : List Passage). accounted other r.farm.passed (told_at other r.awaited) ++ xs) (one_elsewhere other p elsewhere)
        ∙ append-nil (accounted other r.farm.passed (told_at other r.awaited))
        ∙ ap (accounted other r.farm.passed) (sym (changed other ∙ ap (λ (b : Bool). if b then with_told p (told_at p.0.node r.awaited) else told_at other r.awaited) apart))

-- ---- where nothing is awaited any more

all_passed : (told : Option (List Passage)) (node : NodeNo) (passed : List Passage) → is_settled told ≡ true → is_some told ≡ true → accounted node passed told ≡
    passed_at node passed
all_passed None node passed settled watched = absurd (true≢false (sym watched))
all_passed (Some []) node passed settled watched = append-nil (passed_at node passed)
all_passed (Some (p ∷ rest)) node passed settled watched = absurd (true≢false (sym settled))

pub agreed : (r : Reconciling) → IsReconciled r → r.farm.is_whole ≡ true
    → IsPlayed r.farm.site r.farm.world r.farm.passed r.farm.steps r.farm.prints r.farm.lines
    → ((node : NodeNo) → is_settled (told_at node r.awaited) ≡ true) → Agrees r
agreed r kept whole played settled =
    record {
      turns = played.turns;
      run = played.run;
      passes = λ node watched.
          ap (passed_at node) (sym played.passes)
          ∙ sym (kept whole node ∙ all_passed (told_at node r.awaited) node r.farm.passed (settled node) watched);
    }
