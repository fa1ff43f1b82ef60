-- What a step does to what is in flight, and to what clients have sent and received: where connections come up, and where
-- fronts' workers do something.
use Rattle.std.proofs.Common.{◌≡◌, ℕ, Bool, true, false, cond, not, List, [], ◌∷◌, ◌++◌, Option, Some, None, inl, inr, refl, sym, subst, ap, ◌∙◌}
use Rattle.std.proofs.Common.{append-nil, eq-eqb, true≢false}
use Rattle.std.specs.Prelude.{◌==◌, ◌&&◌, ◌||◌, IfSome}
use Rattle.std.specs.List.{find}
use Rattle.dia_base.proofs.Finding.{found_passes}
use Rattle.dia_base.specs.declared.number.ConnId.{ConnId}
use Rattle.std.proofs.lemmas.Bool.{and_parts, both_ways, not-true, false_from_ne_true}
use Rattle.dia_base.specs.declared.number.Moment.{Moment}
use Rattle.dia_base.specs.declared.number.NodeNo.{NodeNo}
use Rattle.dia_message.specs.declared.message.Message.{Message}
use Rattle.dia_message.specs.Traffic.{Traffic}
use Rattle.cc_book.specs.Taking.{Ledger}
use Rattle.front_core.specs.FrontState.{FrontState}
use Rattle.front_core.specs.FrontStep.{after_pick, after_charge, after_refusal, after_emit}
use Rattle.farm_law.specs.Lists.{Has}
use Rattle.farm_law.proofs.Lists.{Has-append}
use Rattle.farm_base.specs.declared.site.Site.{Site}
use Rattle.farm_model.specs.declared.state.Direction.{Direction}
use Rattle.farm_base.specs.declared.step.Step.{Step}
use Rattle.farm_base.specs.declared.step.Step.TheVariants.{Up, Accept, Opened, Crash}
use Rattle.farm_model.specs.SoundSite.{IsSound}
use Rattle.farm_model.specs.FarmStep.{Outcome, can_connect, next_conn, with_new_connection, after_accept}
use Rattle.farm_model.specs.FarmStep.{after_opened_on, opened_if, after_up, empty_direction, with_pick, after_pick_at}
use Rattle.farm_model.specs.Loss.{after_crash}
use Rattle.farm_model.specs.FarmStep.{can_restart, after_crash_at, after_refusal_at, with_emit, after_emit_at, with_charge, after_charge_at}
use Rattle.farm_model.specs.InFlight.{ends_at, grows_at, known_after, left_by, sent_at, received_at}
use Rattle.farm_base.specs.Lists.{replace_first}
use Rattle.farm_base.specs.Nodes.{is_node, is_linked}
use Rattle.farm_model.specs.World.{WorldState, is_between, is_connected, is_unheard}
use Rattle.farm_model.proofs.Lists.Among.{Has-cons, Has-map, Has-parts, Has-kept, Has-filter}
use Rattle.farm_model.proofs.Lists.Finding.{Has-found, not_found}
use Rattle.farm_model.proofs.Lists.Numbering.{same_node}
use Rattle.farm_model.proofs.Lists.Replacing.{Has-replaced, Has-replacement, Has-beside}
use Rattle.farm_model.proofs.Wiring.Apart.{AreApart, goes_once}
use Rattle.farm_model.proofs.Wiring.ApartAfterStep.{apart_after_up, apart_known, apart_without}
use Rattle.farm_model.proofs.Wiring.KnowsAfterUp.{same_one}
use Rattle.farm_model.proofs.Wiring.Linked.{linked_are_two}
use Rattle.farm_model.proofs.Wiring.Sides.{Side, side_of, sides, direction_of, side_connects}
use Rattle.farm_model.proofs.Wiring.WorldLemmas.{direction_nodes}
use Rattle.farm_model.proofs.Wiring.StandingOn.{StandsWith, stands_as, StandOn, stand, MaySend, traffic_on, GoesOn, same_goes_on}

-- what the step leaves of the direction's messages stands there, and others behind them, if it may grow
abbrev pub StaysInFlight : Step → List Direction → Direction → Type 0
StaysInFlight step directions direction = (more : List Message) × (grows_at step direction ≡ false → more ≡ []) × Has
    (record direction { known = known_after step direction; messages = left_by step direction ++ more }) directions

-- the connection of the direction is another than theirs
abbrev pub IsOfNone : List Direction → Direction → Type 0
IsOfNone directions direction = (other : Direction) → Has other directions → (other.conn.0 == direction.conn.0) ≡ false

pub record Carries (site : Site) (step : Step) (old new : WorldState) : Type 0 where
  pub in_flight : (direction : Direction) → Has direction old.directions → ends_at site step old.directions direction ≡ false → StaysInFlight step
      new.directions direction
  pub begun : (direction : Direction) → Has direction new.directions → IsOfNone old.directions direction → direction.messages ≡ []
  pub ended : (direction other : Direction) → Has direction old.directions → ends_at site step old.directions direction ≡ true → Has other
      new.directions → (other.conn.0 == direction.conn.0 && is_node other.to direction.to) ≡ false
  pub apart : AreApart (sides new.directions)
  pub sent : new.sent ≡ old.sent ++ sent_at site step old.directions
  pub received : new.received ≡ old.received ++ received_at site step old.directions

-- a direction whose side was there has a connection that stood
pub stood : (old : List Direction) (direction : Direction) → Has (side_of direction) (sides old) → IsOfNone old direction → ⊥
stood old direction h none =
    let of = direction_of old (side_of direction) h in
    both_ways (of.direction.conn.0 == direction.conn.0) (none of.direction of.among)
    (eq-eqb of.direction.conn.0 direction.conn.0 (ap (λ (s : Side). s.0.0) of.side_is))

pub none_begun : {A : Type 0} {old new : List Direction} → sides new ≡ sides old → (direction : Direction) → Has direction new → IsOfNone old direction → A
none_begun {old = old} same direction h none = absurd (stood old direction (subst (Has (side_of direction)) same (Has-map side_of h)) none)

-- nothing more is told
pub nothing_more : {new old : Traffic} → new ≡ old → new ≡ old ++ []
nothing_more {new} {old} same = same ∙ sym (append-nil old)

-- ---- no message is taken, and no connection ends

pub record IsQuiet (grows : Side → Bool) (site : Site) (step : Step) : Type 0 where
  pub leaves : (direction : Direction) → left_by step direction ≡ direction.messages
  pub may_grow : (direction : Direction) → grows_at step direction ≡ grows (side_of direction)
  pub knows : (direction : Direction) → known_after step direction ≡ direction.known
  pub ends : (directions : List Direction) (direction : Direction) → ends_at site step directions direction ≡ false
  pub receives : (directions : List Direction) → received_at site step directions ≡ []

module _ {site : Site} {step : Step} {old new : WorldState} (grows : Side → Bool) (quiet : IsQuiet grows site step) (apart : AreApart (sides old.directions))
  where
    pub posting_carries : StandOn grows old.directions new.directions → new.sent ≡ old.sent ++ sent_at site step old.directions → new.received ≡ old.received →
        Carries site step old new
    posting_carries on sent received = record {
      in_flight = λ direction h e.
          let stands = on.stands direction h in (
            stands.0,
            λ still. stands.1 (sym (quiet.may_grow direction) ∙ still),
            subst (λ (k : Bool). Has (record direction { known = k; messages = left_by step direction ++ stands.0 }) new.directions)
                (sym (quiet.knows direction))
                (subst (λ (ms : List Message). Has (record direction { messages = ms ++ stands.0 }) new.directions) (sym (quiet.leaves direction)) stands.2),
          );
      begun = λ direction h none. none_begun on.same direction h none;
      ended = λ direction other h e k. absurd (both_ways (ends_at site step old.directions direction) (quiet.ends old.directions direction) e);
      apart = subst AreApart (sym on.same) apart;
      sent = sent;
      received = nothing_more received ∙ ap (λ (items : Traffic). old.received ++ items) (sym (quiet.receives old.directions));
    }

    pub quiet_carries : sent_at site step old.directions ≡ [] → GoesOn grows old new → Carries site step old new
    quiet_carries silent on = posting_carries on.directions (nothing_more on.sent ∙ ap (λ (items : Traffic). old.sent ++ items) (sym silent)) on.received

-- ---- workers of fronts, and sweeps

-- nothing grows
abbrev pub none_grow : Side → Bool
none_grow side = false

module _ (grows : Side → Bool) (w : WorldState) where
  pub outcome_goes_on : (o : Option WorldState) (applied : Bool) (next : WorldState) → IfSome o (GoesOn grows w) → Outcome o applied w next → GoesOn grows w
      next
  outcome_goes_on None applied next on made = same_goes_on grows w next made.1
  outcome_goes_on (Some other) applied next on made = subst (GoesOn grows w) (sym made.1) on

  picked_goes_on : (node : NodeNo) (o : Option FrontState) → IfSome (with_pick w node o) (GoesOn grows w)
  picked_goes_on node None = tt
  picked_goes_on node (Some front) = record { directions = stand grows w.directions; sent = refl; received = refl }

  pub pick_goes_on : (node : NodeNo) (worker : ℕ) (o : Option FrontState) → IfSome (after_pick_at w node worker o) (GoesOn grows w)
  pick_goes_on node worker None = tt
  pick_goes_on node worker (Some front) = picked_goes_on node (after_pick front worker)

  pub refuse_goes_on : (node : NodeNo) (worker : ℕ) (o : Option FrontState) → IfSome (after_refusal_at w node worker o) (GoesOn grows w)
  refuse_goes_on node worker None = tt
  refuse_goes_on node worker (Some front) = picked_goes_on node (after_refusal front worker)

  emitted_goes_on : (node : NodeNo) → MaySend grows node → (o : Option (FrontState × Traffic)) → IfSome (with_emit w node o) (GoesOn grows w)
  emitted_goes_on node may None = tt
  emitted_goes_on node may (Some turn) = record { directions = traffic_on grows node may w.directions turn.1; sent = refl; received = refl }

  pub emit_goes_on : (node : NodeNo) → MaySend grows node → (worker : ℕ) (o : Option FrontState) → IfSome (after_emit_at w node worker o) (GoesOn grows w)
  emit_goes_on node may worker None = tt
  emit_goes_on node may worker (Some front) = emitted_goes_on node may (after_emit front worker)

  charged_goes_on : (node : NodeNo) (o : Option (FrontState × Ledger)) → IfSome (with_charge w node o) (GoesOn grows w)
  charged_goes_on node None = tt
  charged_goes_on node (Some turn) = record { directions = stand grows w.directions; sent = refl; received = refl }

  pub charge_goes_on : (node : NodeNo) (worker : ℕ) (moment : Moment) (o : Option FrontState) → IfSome (after_charge_at w node worker moment o) (GoesOn grows w)
  charge_goes_on node worker moment None = tt
  charge_goes_on node worker moment (Some front) = charged_goes_on node (after_charge front w.book moment worker)

-- ---- a connection comes up

module _ (site : Site) (checked : IsSound site) (old new : WorldState) (applied : Bool) (apart : AreApart (sides old.directions)) (a b : NodeNo) where
  abbrev both : List Direction
  both = old.directions ++ empty_direction (next_conn old) a b true ∷ empty_direction (next_conn old) b a false ∷ []

  -- the two directions that come up
  empty_if_new : (direction : Direction) → Has direction both → IsOfNone old.directions direction → direction.messages ≡ []
  empty_if_new direction h none = elim (Has-parts old.directions h) [
    | inl was ↦ absurd (stood old.directions direction (Has-map side_of was) none)
    | inr new ↦ elim (Has-cons new) [
      | inl forth ↦ ap (λ (d : Direction). d.messages) forth
      | inr more ↦ elim (Has-cons more) [ inl back ↦ ap (λ (d : Direction). d.messages) back | inr none_there ↦ elim none_there [ ] ]
    ]
  ]

  both_apart : can_connect site old a b ≡ true → AreApart (sides both)
  both_apart can =
      let parts = and_parts (is_linked site a b) (not (is_connected old.directions a b)) can in
      apart_after_up old.directions (next_conn old) a b (linked_are_two checked a b parts.0).apart (not-true (is_connected old.directions a b) parts.1) apart

  accepted_carries : can_connect site old a b ≡ true → new ≡ with_new_connection old a b → Carries site (Accept b a) old new
  accepted_carries can same = record {
    in_flight = λ direction h e. subst (λ (w : WorldState). StandsWith none_grow w.directions direction direction.messages) (sym same)
        (stands_as none_grow direction direction.messages
        (Has-append (empty_direction (next_conn old) a b true ∷ empty_direction (next_conn old) b a false ∷ []) h));
    begun = λ direction h none. empty_if_new direction (subst (λ (w : WorldState). Has direction w.directions) same h) none;
    ended = λ direction other h e k. absurd cc;
    apart = subst (λ (w : WorldState). AreApart (sides w.directions)) (sym same) (both_apart can);
    sent = nothing_more (ap (λ (w : WorldState). w.sent) same);
    received = nothing_more (ap (λ (w : WorldState). w.received) same);
  }

  pub accept_carries : Outcome (after_accept site old b a) applied old new → Carries site (Accept b a) old new
  accept_carries out = go (can_connect site old a b) refl out
    where
      go : (c : Bool) → can_connect site old a b ≡ c → Outcome (cond c (Some (with_new_connection old a b)) None) applied old new
          → Carries site (Accept b a) old new
      go true can made = accepted_carries can made.1
      go false can made = quiet_carries none_grow (record {
        leaves = λ direction. refl;
        may_grow = λ direction. refl;
        knows = λ direction. refl;
        ends = λ directions direction. refl;
        receives = λ directions. refl;
      }) apart refl (same_goes_on none_grow old new made.1)

  -- ---- both learn of it at once

  abbrev both_known : Direction → List Direction
  both_known first = replace_first (is_unheard b a) (record first { known = true }) both

  both_carry : can_connect site old a b ≡ true → (first : Direction) → find (is_unheard b a) both ≡ Some first → new.directions ≡ both_known first →
      new.sent ≡ old.sent → new.received ≡ old.received → Carries site (Up a b) old new
  both_carry can first f same sent received = record {
    in_flight = λ direction h e. subst (λ (ds : List Direction). StandsWith none_grow ds direction direction.messages) (sym same)
        (stands_as none_grow direction direction.messages (kept direction h));
    begun = λ direction h none. begun_empty direction (subst (Has direction) same h) none;
    ended = λ direction other h e k. absurd cc;
    apart = subst (λ (ds : List Direction). AreApart (sides ds)) (sym same) (apart_known (is_unheard b a) first both f (both_apart can));
    sent = nothing_more sent;
    received = nothing_more received;
  }
    where
      free : is_connected old.directions a b ≡ false
      free = not-true (is_connected old.directions a b) (and_parts (is_linked site a b) (not (is_connected old.directions a b)) can).1

      nodes : (first.from ≡ b) × (first.to ≡ a)
      nodes = direction_nodes b a first (and_parts (is_between b a first) (not first.known) (found_passes (is_unheard b a) both first f)).0

      was_none : Has first old.directions → ⊥
      was_none h = true≢false (sym (side_connects old.directions first.conn b a first.known
          (subst (λ (n : NodeNo). Has (first.conn, b, n, first.known) (sides old.directions)) nodes.1
          (subst (λ (n : NodeNo). Has (first.conn, n, first.to, first.known) (sides old.directions)) nodes.0 (Has-map side_of h)))).1 ∙ free)

      kept : (direction : Direction) → Has direction old.directions → Has direction (both_known first)
      kept direction h = elim (Has-beside (is_unheard b a) first (record first { known = true }) both f
          (Has-append (empty_direction (next_conn old) a b true ∷ empty_direction (next_conn old) b a false ∷ []) h)) [
            | inl is ↦ absurd (was_none (subst (λ (d : Direction). Has d old.directions) is h))
            | inr still ↦ still
          ]

      begun_empty : (direction : Direction) → Has direction (both_known first) → IsOfNone old.directions direction → direction.messages ≡ []
      begun_empty direction h none = elim (Has-replaced (is_unheard b a) (record first { known = true }) both h) [
        | inl is ↦ ap (λ (d : Direction). d.messages) is ∙ empty_if_new first (Has-found (is_unheard b a) both f)
            (λ other g. subst (λ (c : ConnId). (other.conn.0 == c.0) ≡ false) (ap (λ (d : Direction). d.conn) is) (none other g))
        | inr there_still ↦ empty_if_new direction there_still none
      ]

  pub up_carries : Outcome (after_up site old a b) applied old new → Carries site (Up a b) old new
  up_carries out = go (can_connect site old a b) refl out
    where
      quietly : new ≡ old → Carries site (Up a b) old new
      quietly same = quiet_carries none_grow (record {
        leaves = λ direction. refl;
        may_grow = λ direction. refl;
        knows = λ direction. refl;
        ends = λ directions direction. refl;
        receives = λ directions. refl;
      }) apart refl (same_goes_on none_grow old new same)

      opens : can_connect site old a b ≡ true → (o : Option Direction) → find (is_unheard b a) both ≡ o → Outcome
          (after_opened_on (with_new_connection old a b) a b o) applied old new → Carries site (Up a b) old new
      opens can None f made = quietly made.1
      opens can (Some first) f made = both_carry can first f (ap (λ (w : WorldState). w.directions) made.1) (ap (λ (w : WorldState). w.sent) made.1)
          (ap (λ (w : WorldState). w.received) made.1)

      go : (c : Bool) → can_connect site old a b ≡ c → Outcome (opened_if a b (cond c (Some (with_new_connection old a b)) None)) applied old new → Carries site
          (Up a b) old new
      go true can made = opens can (find (is_unheard b a) both) refl made
      go false can made = quietly made.1

-- ---- the node that opens a connection learns of it

-- where the direction is known already, or is not the one that it learns of, nothing changes
known_stays : (a b : NodeNo) (direction : Direction) → is_unheard b a direction ≡ false → known_after (Opened a b) direction ≡ direction.known
known_stays a b direction e = go (is_between b a direction) direction.known e
  where
    go : (g k : Bool) → (g && not k) ≡ false → (g || k) ≡ k
    go false k e = refl
    go true true e = refl
    go true false e = absurd cc

known_flips : (a b : NodeNo) (direction : Direction) → is_unheard b a direction ≡ true → known_after (Opened a b) direction ≡ true
known_flips a b direction e = ap (λ (g : Bool). g || direction.known) (and_parts (is_between b a direction) (not direction.known) e).0

module _ (site : Site) (old new : WorldState) (applied : Bool) (apart : AreApart (sides old.directions)) (a b : NodeNo) where
  stays_known : (directions : List Direction) (direction : Direction) (k : Bool) → known_after (Opened a b) direction ≡ k → Has (record direction { known = k })
      directions → StaysInFlight (Opened a b) directions direction
  stays_known directions direction k e h = (
    [],
    λ still. refl,
    subst (λ (c : Bool). Has (record direction { known = c; messages = direction.messages ++ [] }) directions) (sym e)
        (subst (λ (ms : List Message). Has (record direction { known = k; messages = ms }) directions) (sym (append-nil direction.messages)) h),
  )

  found_carries : (first : Direction) → find (is_unheard b a) old.directions ≡ Some first → new.directions ≡ replace_first (is_unheard b a)
      (record first { known = true }) old.directions → new.sent ≡ old.sent → new.received ≡ old.received → Carries site (Opened a b) old new
  found_carries first f same sent received = record {
    in_flight = λ direction h e. subst (λ (ds : List Direction). StaysInFlight (Opened a b) ds direction) (sym same)
        (stays direction h (is_unheard b a direction) refl);
    begun = λ direction h none. begun_before direction (subst (Has direction) same h) none;
    ended = λ direction other h e k. absurd cc;
    apart = subst (λ (ds : List Direction). AreApart (sides ds)) (sym same) (apart_known (is_unheard b a) first old.directions f apart);
    sent = nothing_more sent;
    received = nothing_more received;
  }
    where
      then : List Direction
      then = replace_first (is_unheard b a) (record first { known = true }) old.directions

      passes : is_unheard b a first ≡ true
      passes = found_passes (is_unheard b a) old.directions first f

      between : (direction : Direction) → is_unheard b a direction ≡ true → is_between b a direction ≡ true
      between direction e = (and_parts (is_between b a direction) (not direction.known) e).0

      stays : (direction : Direction) → Has direction old.directions → (c : Bool) → is_unheard b a direction ≡ c → StaysInFlight (Opened a b) then direction
      stays direction h false e = elim (Has-beside (is_unheard b a) first (record first { known = true }) old.directions f h) [
        | inl is ↦ absurd (both_ways (is_unheard b a direction) e (ap (is_unheard b a) is ∙ passes))
        | inr kept ↦ stays_known then direction direction.known (known_stays a b direction e) kept
      ]
      stays direction h true e =
          let same_one_is : direction ≡ first = same_one (is_between b a) old.directions (goes_once old.directions apart b a) h
          (Has-found (is_unheard b a) old.directions f) (between direction e) (between first passes) in
          stays_known then direction true (known_flips a b direction e)
          (subst (λ (d : Direction). Has (record d { known = true }) then) (sym same_one_is)
          (Has-replacement (is_unheard b a) first (record first { known = true }) old.directions f))

      begun_before : (direction : Direction) → Has direction then → IsOfNone old.directions direction → direction.messages ≡ []
      begun_before direction h none = elim (Has-replaced (is_unheard b a) (record first { known = true }) old.directions h) [
        | inl is ↦ absurd (both_ways (first.conn.0 == direction.conn.0) (none first (Has-found (is_unheard b a) old.directions f))
            (eq-eqb first.conn.0 direction.conn.0 (ap (λ (d : Direction). d.conn.0) (sym is))))
        | inr was ↦ absurd (stood old.directions direction (Has-map side_of was) none)
      ]

  none_carries : find (is_unheard b a) old.directions ≡ None → new ≡ old → Carries site (Opened a b) old new
  none_carries f same = record {
    in_flight = λ direction h e. subst (λ (w : WorldState). StaysInFlight (Opened a b) w.directions direction) (sym same)
        (stays_known old.directions direction direction.known (known_stays a b direction (not_found (is_unheard b a) f h)) h);
    begun = λ direction h none. none_begun (ap (λ (w : WorldState). sides w.directions) same) direction h none;
    ended = λ direction other h e k. absurd cc;
    apart = subst (λ (w : WorldState). AreApart (sides w.directions)) (sym same) apart;
    sent = nothing_more (ap (λ (w : WorldState). w.sent) same);
    received = nothing_more (ap (λ (w : WorldState). w.received) same);
  }

  pub opened_carries : (found : Option Direction) → find (is_unheard b a) old.directions ≡ found → Outcome (after_opened_on old a b found) applied old new →
      Carries site (Opened a b) old new
  opened_carries None f made = none_carries f made.1
  opened_carries (Some first) f made = found_carries first f (ap (λ (w : WorldState). w.directions) made.1) (ap (λ (w : WorldState). w.sent) made.1)
      (ap (λ (w : WorldState). w.received) made.1)

-- ---- a node forgets everything

module _ (site : Site) (old new : WorldState) (applied : Bool) (apart : AreApart (sides old.directions)) (node : NodeNo) where
  abbrev stays_with : Direction → Bool
  stays_with direction = not (is_node direction.to node)

  crashed_carries : can_restart site node ≡ true → new ≡ after_crash old node → Carries site (Crash node) old new
  crashed_carries can same = record {
    in_flight = λ direction h e. subst (λ (w : WorldState). StandsWith none_grow w.directions direction direction.messages) (sym same)
        (stands_as none_grow direction direction.messages
        (Has-kept stays_with h (ap not (ap (λ (c : Bool). c && is_node direction.to node) (sym can) ∙ e))));
    begun = λ direction h none. absurd (stood old.directions direction
        (Has-map side_of (Has-filter stays_with old.directions (subst (λ (w : WorldState). Has direction w.directions) same h)).0) none);
    ended = λ direction other h e k. false_from_ne_true (other.conn.0 == direction.conn.0 && is_node other.to direction.to) (λ both.
        let here_too = same_node other.to direction.to (and_parts (other.conn.0 == direction.conn.0) (is_node other.to direction.to) both).1 in
        let gone = and_parts (can_restart site node) (is_node direction.to node) e in
        let left = Has-filter stays_with old.directions (subst (λ (w : WorldState). Has other w.directions) same k) in
        both_ways (is_node other.to node) (not-true (is_node other.to node) left.1) (ap (λ (n : NodeNo). is_node n node) here_too ∙ gone.1));
    apart = subst (λ (w : WorldState). AreApart (sides w.directions)) (sym same) (apart_without stays_with old.directions apart);
    sent = nothing_more (ap (λ (w : WorldState). w.sent) same);
    received = nothing_more (ap (λ (w : WorldState). w.received) same);
  }

  pub crash_carries : Outcome (after_crash_at site old node) applied old new → Carries site (Crash node) old new
  crash_carries out = go (can_restart site node) refl out
    where
      go : (c : Bool) → can_restart site node ≡ c → Outcome (cond c (Some (after_crash old node)) None) applied old new → Carries site (Crash node) old new
      go true can made = crashed_carries can made.1
      go false can made = quiet_carries none_grow (record {
        leaves = λ direction. refl;
        may_grow = λ direction. refl;
        knows = λ direction. refl;
        ends = λ directions direction. ap (λ (c : Bool). c && is_node direction.to node) can;
        receives = λ directions. refl;
      }) apart refl (same_goes_on none_grow old new made.1)
