-- A step is told as applied exactly where it can apply.
use Rattle.std.proofs.Common.{◌≡◌, ℕ, ◌≤◌, Bool, true, false, cond, not, ltb, List, [], ◌∷◌, length, Option, Some, None, inl, inr, refl, sym}
use Rattle.std.proofs.Common.{ap, ◌∙◌, arith}
use Rattle.std.specs.Prelude.{◌&&◌, ◌||◌, MatchBool, count_by, is_some, option_map, slice_get}
use Rattle.std.specs.List.{find, list_any}
use Rattle.std.proofs.lemmas.Bool.{and_from, lt-ltb, ltb-true}
use Rattle.std.proofs.lemmas.Option.{slice_get_cases}
use Rattle.dia_base.specs.declared.number.ConnId.{ConnId}
use Rattle.dia_base.specs.declared.number.Moment.{Moment}
use Rattle.dia_base.specs.declared.number.NodeNo.{NodeNo}
use Rattle.dia_base.proofs.Counting.{one, count-cons}
use Rattle.dia_message.specs.declared.message.Message.{Message}
use Rattle.front_core.specs.declared.worker.Job.{Job}
use Rattle.front_core.specs.declared.worker.Worker.{Worker}
use Rattle.front_core.specs.declared.worker.Worker.TheVariants.{Idle, Picked, Done}
use Rattle.front_core.specs.FrontState.{FrontState}
use Rattle.front_core.specs.FrontStep.{after_pick_from, after_pick_by, after_refusal_by, after_emit_by, after_charge_by}
use Rattle.farm_law.specs.Lists.{Has, here, there}
use Rattle.farm_base.specs.declared.site.Site.{Site}
use Rattle.farm_model.specs.declared.state.Direction.{Direction}
use Rattle.farm_base.specs.declared.step.Step.{Step}
use Rattle.farm_base.specs.declared.step.Step.TheVariants.{Up, Accept, Opened, Send, Deliver, Lose, Cut, Drop}
use Rattle.farm_base.specs.declared.step.Step.TheVariants.{Restart, Crash, Pick, Charge, Refuse, Emit, Sweep, ChangeTerms}
use Rattle.farm_model.specs.Applying.{has_place, is_idle, has_picked, is_done, is_waiting, front_can, can_apply}
use Rattle.farm_model.specs.Applying.{AppliesWhereItCan, could_not_apply}
use Rattle.farm_model.specs.FarmStep.{FarmStep, Outcome, Flight, Delivers, can_cut, flight_of, flight_in, flight_where, flight_at, loss_at, can_connect}
use Rattle.farm_model.specs.FarmStep.{with_new_connection, next_conn, empty_direction, after_accept, after_opened_on, after_opened, opened_if}
use Rattle.farm_model.specs.FarmStep.{after_up, after_send_on, after_send, after_lost_message, with_pick, after_pick_at, with_charge}
use Rattle.farm_model.specs.FarmStep.{after_charge_at, after_refusal_at, with_emit, after_emit_at, can_restart, after_crash_at}
use Rattle.farm_model.specs.InFlight.{goes, knows_other}
use Rattle.farm_model.specs.Loss.{LossAt, CutsBoth, after_crash, peers_of, DropAll}
use Rattle.farm_base.specs.Nodes.{is_node, is_client}
use Rattle.farm_model.specs.Run.{Past, Transition, skipped_in}
use Rattle.farm_model.specs.World.{WorldState, is_between, is_heard, is_unheard, conn_known, front_at}
use Rattle.farm_model.proofs.Wiring.Apart.{AreApart, goes_once, heard_once}
use Rattle.farm_model.proofs.Lists.Finding.{any_none, any_has, does_not_pass}
use Rattle.farm_model.proofs.Lists.Among.{Has-right}
use Rattle.farm_model.proofs.Lists.Numbering.{node_itself}
use Rattle.farm_model.proofs.Wiring.Sides.{sides}

-- ---- what is there

some_if : {A : Type 0} (b : Bool) (x : A) → is_some (cond b (Some x) None) ≡ b
some_if true x = refl
some_if false x = refl

some_mapped : {A B : Type 0} (f : A → B) (o : Option A) → is_some (option_map f o) ≡ is_some o
some_mapped f None = refl
some_mapped f (Some x) = refl

some_found : {A : Type 0} (test : A → Bool) (xs : List A) → is_some (find test xs) ≡ list_any test xs
some_found test [] = refl
some_found {A} test (x ∷ xs) = go (test x) (some_found test xs)
  where
    go : (b : Bool) → is_some (find test xs) ≡ list_any test xs → is_some (cond b (Some x) (find test xs)) ≡ (b || list_any test xs)
    go true more = refl
    go false more = more

not_below : (i n : ℕ) → n ≤ i → ltb i n ≡ false
not_below i n le = go (ltb i n) refl
  where
    go : (b : Bool) → ltb i n ≡ b → b ≡ false
    go true e = let less = ltb-true i n e in absurd (omega (arith, less, le))
    go false e = refl

some_got : {A : Type 0} (xs : List A) (i : ℕ) → is_some (slice_get xs i) ≡ ltb i (length xs)
some_got xs i = elim (slice_get_cases xs i).1 [
  | inl there_is ↦ ap is_some there_is.2 ∙ sym (lt-ltb i (length xs) there_is.1)
  | inr past ↦ ap is_some past.1 ∙ sym (not_below i (length xs) past.0)
]

-- ---- a message in flight

has_message : ℕ → Option Direction → Bool
has_message place None = false
has_message place (Some direction) = ltb place (length direction.messages)

flies_of : (test : Direction → Bool) (directions : List Direction) (place : ℕ) (direction : Direction) (message : Option Message) → is_some
    (flight_of test directions place direction message) ≡ is_some message
flies_of test directions place direction None = refl
flies_of test directions place direction (Some message) = refl

flies_in : (test : Direction → Bool) (directions : List Direction) (place : ℕ) (found : Option Direction) → is_some (flight_in test directions place found) ≡
    has_message place found
unfolding has_message
flies_in test directions place None = refl
flies_in test directions place (Some direction) = flies_of test directions place direction (slice_get direction.messages place) ∙ some_got
    direction.messages place

-- a message is at this place in a direction that passes
abbrev has_in : (Direction → Bool) → ℕ → Direction → Bool
has_in test place direction = test direction && ltb place (length direction.messages)

the_first : (test : Direction → Bool) (place : ℕ) (directions : List Direction) → count_by test directions ≤ 1 → has_message place (find test directions) ≡
    list_any (has_in test place) directions
unfolding has_message
the_first test place [] most = refl
the_first test place (direction ∷ directions) most = go (test direction) refl (the_first test place directions)
  where
    go : (b : Bool) → test direction ≡ b → (count_by test directions ≤ 1 → has_message place (find test directions) ≡ list_any (has_in test place) directions)
        → has_message place (cond b (Some direction) (find test directions)) ≡
        ((b && ltb place (length direction.messages)) || list_any (has_in test place) directions)
    go true is more =
        let this : one (test direction) ≡ 1 = ap one is in
        let none : count_by test directions ≡ 0 = omega (arith, most, this, count-cons test direction directions) in
        let nobody : list_any (has_in test place) directions ≡ false =
        any_none (has_in test place) directions (λ other h. ap (λ (b : Bool). b && ltb place (length other.messages))
        (does_not_pass test directions none h)) in
        or_false (ltb place (length direction.messages)) (list_any (has_in test place) directions) nobody
      where
        or_false : (a b : Bool) → b ≡ false → a ≡ (a || b)
        or_false true b e = refl
        or_false false b e = sym e
    go false is more =
        let this : one (test direction) ≡ 0 = ap one is in
        more (omega (arith, most, this, count-cons test direction directions))

flies : (test : Direction → Bool) (directions : List Direction) (place : ℕ) → count_by test directions ≤ 1 → is_some (flight_where test directions place) ≡
    list_any (has_in test place) directions
flies test directions place most = flies_in test directions place (find test directions) ∙ the_first test place directions most

any_same : (p q : Direction → Bool) → ((d : Direction) → p d ≡ q d) → (directions : List Direction) → list_any p directions ≡ list_any q directions
any_same p q same [] = refl
any_same p q same (d ∷ directions) = ap (λ (b : Bool). b || list_any p directions) (same d) ∙ ap (λ (b : Bool). q d || b) (any_same p q same directions)

swapped : (a b c : Bool) → ((a && b) && c) ≡ ((a && c) && b)
swapped true true true = refl
swapped true true false = refl
swapped true false true = refl
swapped true false false = refl
swapped false b c = refl

-- ---- a worker

module _ (w : WorldState) (node : NodeNo) where
  picks_from : (front : FrontState) (worker : ℕ) (queue : List Job) → is_some (with_pick w node (after_pick_from front worker queue)) ≡ is_waiting queue
  picks_from front worker [] = refl
  picks_from front worker (job ∷ jobs) = refl

  picks_by : (front : FrontState) (worker : ℕ) (held : Option Worker) → is_some (with_pick w node (after_pick_by front worker held)) ≡
      (is_idle held && is_waiting front.queue)
  picks_by front worker None = refl
  picks_by front worker (Some Idle) = picks_from front worker front.queue
  picks_by front worker (Some (Picked conn message)) = refl
  picks_by front worker (Some (Done conn answer)) = refl

  refuses_by : (front : FrontState) (worker : ℕ) (held : Option Worker) → is_some (with_pick w node (after_refusal_by front worker held)) ≡ has_picked held
  refuses_by front worker None = refl
  refuses_by front worker (Some Idle) = refl
  refuses_by front worker (Some (Picked conn message)) = refl
  refuses_by front worker (Some (Done conn answer)) = refl

  emits_by : (front : FrontState) (worker : ℕ) (held : Option Worker) → is_some (with_emit w node (after_emit_by front worker held)) ≡ is_done held
  emits_by front worker None = refl
  emits_by front worker (Some Idle) = refl
  emits_by front worker (Some (Picked conn message)) = refl
  emits_by front worker (Some (Done conn answer)) = refl

  charges_by : (front : FrontState) (worker : ℕ) (moment : Moment) (held : Option Worker) → is_some
      (with_charge w node (after_charge_by front w.book moment worker held)) ≡ has_picked held
  charges_by front worker moment None = refl
  charges_by front worker moment (Some Idle) = refl
  charges_by front worker moment (Some (Picked conn message)) = refl
  charges_by front worker moment (Some (Done conn answer)) = refl

  picks : (worker : ℕ) (found : Option FrontState) → is_some (after_pick_at w node worker found) ≡ front_can
      (λ front held. is_idle held && is_waiting front.queue) worker found
  picks worker None = refl
  picks worker (Some front) = picks_by front worker (slice_get front.workers worker)

  refuses : (worker : ℕ) (found : Option FrontState) → is_some (after_refusal_at w node worker found) ≡ front_can (λ front held. has_picked held) worker found
  refuses worker None = refl
  refuses worker (Some front) = refuses_by front worker (slice_get front.workers worker)

  emits : (worker : ℕ) (found : Option FrontState) → is_some (after_emit_at w node worker found) ≡ front_can (λ front held. is_done held) worker found
  emits worker None = refl
  emits worker (Some front) = emits_by front worker (slice_get front.workers worker)

  charges : (worker : ℕ) (moment : Moment) (found : Option FrontState) → is_some (after_charge_at w node worker moment found) ≡ front_can
      (λ front held. has_picked held) worker found
  charges worker moment None = refl
  charges worker moment (Some front) = charges_by front worker moment (slice_get front.workers worker)

-- ---- any step

module _ (site : Site) (old new : WorldState) (applied : Bool) (losses : List LossAt) (apart : AreApart (sides old.directions)) where
  outcome_told : (o : Option WorldState) → Outcome o applied old new → applied ≡ is_some o
  outcome_told None made = made.0
  outcome_told (Some next) made = made.0

  delivery_told : (to : NodeNo) (flight : Option Flight) → Delivers site old to flight applied new → applied ≡ is_some flight
  delivery_told to None made = made.0
  delivery_told to (Some flight) made = made.0

  loss_told : (flight : Option Flight) → is_some (after_lost_message old flight) ≡ is_some flight
  loss_told None = refl
  loss_told (Some flight) = refl

  cut_told : (a b : NodeNo) (b' : Bool) → MatchBool b' ((applied ≡ true) × CutsBoth old a b losses new) ((applied ≡ false) × (losses ≡ []) × (new ≡ old)) →
      applied ≡ b'
  cut_told a b true made = made.0
  cut_told a b false made = made.0

  restart_told : (node : NodeNo) (b : Bool) → MatchBool b ((applied ≡ true) × DropAll node (peers_of node old.directions) (after_crash old node) losses new)
      ((applied ≡ false) × (losses ≡ []) × (new ≡ old)) → applied ≡ b
  restart_told node true made = made.0
  restart_told node false made = made.0

  sends_on : (client : NodeNo) (message : Message) (found : Option ConnId) → is_some (after_send_on old client message found) ≡ is_some found
  sends_on client message None = refl
  sends_on client message (Some conn) = refl

  sends_if : (client to : NodeNo) (message : Message) (b : Bool) → is_some
      (cond b (after_send_on old client message (conn_known old.directions client to)) None) ≡ (b && knows_other old.directions client to)
  sends_if client to message true = sends_on client message (conn_known old.directions client to) ∙ some_mapped (λ (direction : Direction). direction.conn)
      (find (is_heard to client) old.directions) ∙ some_found (is_heard to client) old.directions
  sends_if client to message false = refl

  opens_on : (w : WorldState) (a b : NodeNo) (found : Option Direction) → is_some (after_opened_on w a b found) ≡ is_some found
  opens_on w a b None = refl
  opens_on w a b (Some direction) = refl

  opens : (w : WorldState) (a b : NodeNo) → is_some (after_opened w a b) ≡ list_any (is_unheard b a) w.directions
  opens w a b = opens_on w a b (find (is_unheard b a) w.directions) ∙ some_found (is_unheard b a) w.directions

  -- the next connection is there to be learned of
  is_there : (a b : NodeNo) → list_any (is_unheard b a) (with_new_connection old a b).directions ≡ true
  is_there a b = any_has (is_unheard b a) (Has-right old.directions (there here))
      (and_from (is_between b a (empty_direction (next_conn old) b a false)) true (and_from (is_node b b) (is_node a a) (node_itself b) (node_itself a)) refl)

  ups : (a b : NodeNo) (c : Bool) → is_some (opened_if a b (cond c (Some (with_new_connection old a b)) None)) ≡ c
  ups a b true = opens (with_new_connection old a b) a b ∙ is_there a b
  ups a b false = refl

  pub step_told : (step : Step) → FarmStep site old step applied losses new → applied ≡ can_apply site old step
  step_told (Up a b) made = outcome_told (after_up site old a b) made.0 ∙ ups a b (can_connect site old a b)
  step_told (Accept at from) made = outcome_told (after_accept site old at from) made.0
      ∙ some_if (can_connect site old from at) (with_new_connection old from at)
  step_told (Opened a b) made = outcome_told (after_opened old a b) made.0 ∙ opens old a b
  step_told (Send client to message) made = outcome_told (after_send site old client to message) made.0 ∙ sends_if client to message (is_client site client)
  step_told (Deliver from to place) made = delivery_told to (flight_at old.directions from to place) made.0
      ∙ flies (is_heard from to) old.directions place (heard_once old.directions apart from to)
      ∙ any_same (has_in (is_heard from to) place) (λ d. has_place from to place d && d.known)
      (λ d. swapped (goes from to d) d.known (ltb place (length d.messages))) old.directions
  step_told (Lose from to place) made =
      outcome_told (after_lost_message old (loss_at old.directions from to place)) made.0 ∙ loss_told (loss_at old.directions from to place) ∙ flies
      (goes from to) old.directions place (goes_once old.directions apart from to)
  step_told (Cut a b) made = cut_told a b (can_cut old a b) made
  step_told (Drop a b) made = made.0 ∙ some_found (is_between b a) old.directions
  step_told (Crash node) made = outcome_told (after_crash_at site old node) made.0 ∙ some_if (can_restart site node) (after_crash old node)
  step_told (Restart node) made = restart_told node (can_restart site node) made
  step_told (Pick node worker) made = outcome_told (after_pick_at old node worker (front_at node old.fronts)) made.0 ∙ picks old node worker
      (front_at node old.fronts)
  step_told (Charge node worker moment) made = outcome_told (after_charge_at old node worker moment (front_at node old.fronts)) made.0 ∙ charges old node
      worker moment (front_at node old.fronts)
  step_told (Refuse node worker) made = outcome_told (after_refusal_at old node worker (front_at node old.fronts)) made.0 ∙ refuses old node worker
      (front_at node old.fronts)
  step_told (Emit node worker) made = outcome_told (after_emit_at old node worker (front_at node old.fronts)) made.0 ∙ emits old node worker
      (front_at node old.fronts)
  step_told (Sweep moment) made = made.0.0
  step_told (ChangeTerms moment change) made = made.0.0

-- ---- how many are skipped

pub skipped_are : (site : Site) (past : Past) → ((t : Transition) → Has t past → AppliesWhereItCan site t) → skipped_in past ≡ could_not_apply site past
skipped_are site [] told = refl
skipped_are site (t ∷ past) told =
    let this : one (not t.applied) ≡ one (not (can_apply site t.before t.step)) = ap (λ (b : Bool). one (not b)) (told t here) in
    let more = skipped_are site past (λ other h. told other (there h)) in
    omega (
      arith,
      this,
      more,
      count-cons (λ (other : Transition). not other.applied) t past,
      count-cons
          (λ (other : Transition). not (can_apply site other.before other.step)) t past,
    )
