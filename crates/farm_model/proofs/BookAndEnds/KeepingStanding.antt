-- What stands after a step stood before it, or is of the connection that the step makes.
use Rattle.std.proofs.Common.{◌≡◌, ℕ, Bool, true, false, cond, not, List, [], ◌∷◌, Option, Some, None, inl, inr, refl, sym, subst, ap, ◌∙◌, true≢false}
use Rattle.std.specs.Prelude.{MatchBool, filter}
use Rattle.std.specs.List.{find}
use Rattle.std.proofs.lemmas.Bool.{and_parts, and_from, not-true}
use Rattle.dia_base.specs.declared.number.ConnId.{ConnId}
use Rattle.dia_base.specs.declared.number.NodeNo.{NodeNo}
use Rattle.dia_base.proofs.Finding.{found_passes}
use Rattle.dia_message.specs.declared.message.Message.{Message}
use Rattle.farm_law.specs.Lists.{Has}
use Rattle.farm_base.specs.declared.site.Site.{Site}
use Rattle.farm_model.specs.SoundSite.{IsSound}
use Rattle.farm_model.specs.declared.state.Direction.{Direction}
use Rattle.farm_base.specs.declared.step.Step.{Step}
use Rattle.farm_base.specs.declared.step.Step.TheVariants.{Up, Accept, Opened, Send, Deliver, Lose, Cut, Drop}
use Rattle.farm_base.specs.declared.step.Step.TheVariants.{Restart, Crash, Pick, Charge, Refuse, Emit, Sweep, ChangeTerms}
use Rattle.farm_base.specs.Lists.{replace_first}
use Rattle.farm_model.specs.Arrival.{after_arrival_at_client, ArrivesAtServer}
use Rattle.farm_model.specs.BookAndEnds.{next_way, StandsAfter, stood, first_made, second_made, first_accepted, second_accepted}
use Rattle.farm_model.specs.FarmStep.{FarmStep, Outcome, Flight, flight_at, loss_at, Delivers, after_lost_message, can_connect, with_new_connection}
use Rattle.farm_model.specs.FarmStep.{next_conn, after_accept, after_opened_on}
use Rattle.farm_model.specs.FarmStep.{opened_if, after_up, can_cut, Cuts}
use Rattle.farm_model.specs.FarmStep.{after_send, after_send_on, after_pick_at, after_refusal_at, after_emit_at, after_charge_at, after_sweep_at, after_change_at, can_restart}
use Rattle.farm_model.specs.InFlight.{goes}
use Rattle.farm_model.specs.Loss.{LossAt, LearnLosses, EndGoes, end_with, CutsBoth, after_end}
use Rattle.farm_model.specs.Loss.{after_losing_all, after_crash, peers_of, DropAll, all_dropped, drops_too}
use Rattle.farm_base.specs.Nodes.{is_node, is_client, is_linked}
use Rattle.farm_model.specs.Run.{Transition}
use Rattle.farm_model.specs.World.{WorldState, is_between, is_heard, is_unheard, is_inward, is_connected, without_end, conn_known, front_at}
use Rattle.farm_model.proofs.Lists.Among.{Has-map, Has-cons, Has-parts, Has-filter, Contains-has}
use Rattle.farm_model.proofs.Lists.Finding.{Has-found}
use Rattle.farm_model.proofs.Lists.Numbering.{node_itself}
use Rattle.farm_model.proofs.Lists.Replacing.{Has-replaced, Has-replacement}
use Rattle.farm_model.proofs.Wiring.Apart.{AreApart, goes_once, heard_once}
use Rattle.farm_model.proofs.Wiring.ApartAfterStep.{apart_after_up, apart_known}
use Rattle.farm_model.proofs.Wiring.KnowsAfterStep.{sides_emptied}
use Rattle.farm_model.proofs.Wiring.KnowsAfterUp.{same_one}
use Rattle.farm_model.proofs.Wiring.Linked.{linked_are_two}
use Rattle.farm_model.proofs.Traffic.FlightLemmas.{flight_sides}
use Rattle.farm_model.proofs.Wiring.Sides.{Side, side_of, sides, direction_of, sides_posted}
use Rattle.farm_model.proofs.Wiring.StandingOn.{GoesOn, same_goes_on, at_server_goes_on, losses_go_on}
use Rattle.farm_model.proofs.Traffic.TrafficOfSteps.{outcome_goes_on, pick_goes_on, refuse_goes_on, emit_goes_on, charge_goes_on}

-- any direction may grow
abbrev always : Side → Bool
always side = true

-- a direction but for what is in flight in it, and for whether it is known
abbrev Line : Type 0
Line = ConnId × NodeNo × NodeNo

abbrev line_of : Direction → Line
line_of direction = (direction.conn, direction.from, direction.to)

-- no direction is new
abbrev NoneNew : List Direction → List Direction → Type 0
NoneNew old new = (direction : Direction) → Has direction new → (before : Direction) × Has before old × (line_of before ≡ line_of direction)

same_sides : (old new : List Direction) → sides new ≡ sides old → NoneNew old new
same_sides old new same direction h =
    let of = direction_of old (side_of direction) (subst (Has (side_of direction)) same (Has-map side_of h)) in
    (of.direction, of.among, ap (λ (s : Side). (s.0, s.1, s.2)) of.side_is)

fewer_directions : (keep : Direction → Bool) (old : List Direction) → NoneNew old (filter keep old)
fewer_directions keep old direction h = (direction, (Has-filter keep old h).0, refl)

none_then : (one two three : List Direction) → NoneNew one two → NoneNew two three → NoneNew one three
none_then one two three first second direction h =
    let middle = second direction h in
    let before = first middle.0 middle.1 in
    (before.0, before.1, before.2 ∙ middle.2)

-- one that a node learns of stood
one_known : (test : Direction → Bool) (first : Direction) (old : List Direction) → find test old ≡ Some first → NoneNew old
    (replace_first test (record first { known = true }) old)
one_known test first old found direction h = elim (Has-replaced test (record first { known = true }) old h) [
  | inl is ↦ (first, Has-found test old found, ap line_of (sym is))
  | inr was ↦ (direction, was, refl)
]

-- so each that stands stood before
all_stood : {site : Site} (t : Transition) → NoneNew t.before.directions t.after.directions → (direction : Direction) → Has direction t.after.directions →
    StandsAfter site t direction
all_stood t none direction h =
    let was = none direction h in
    stood was.0 (Contains-has was.1) (ap (λ (l : Line). l.0) was.2) (ap (λ (l : Line). l.1) was.2) (ap (λ (l : Line). l.2) was.2)

-- ---- connections end

end_quiet : (w next : WorldState) (node : NodeNo) (found : Option Direction) (losses : List LossAt) → EndGoes w node found losses next → NoneNew w.directions
    next.directions
end_quiet w next node None losses made = same_sides w.directions next.directions (ap (λ (v : WorldState). sides v.directions) made.1)
end_quiet w next node (Some first) losses made = none_then w.directions left next.directions
    (fewer_directions (λ d. not (is_inward node first.conn d)) w.directions) (same_sides left next.directions (go first.known made))
  where
    left : List Direction
    left = without_end node first.conn w.directions

    go : (b : Bool) → MatchBool b (LearnLosses (record { node = node; conn = first.conn } ∷ []) (after_end w node first.conn) losses next)
        ((losses ≡ []) × (next ≡ after_end w node first.conn)) → sides next.directions ≡ sides left
    go true learn = (losses_go_on always (λ loss h side e. refl) learn).directions.same
    go false idle = ap (λ (v : WorldState). sides v.directions) idle.1

cut_both_quiet : (w next : WorldState) (a b : NodeNo) (losses : List LossAt) → CutsBoth w a b losses next → NoneNew w.directions next.directions
cut_both_quiet w next a b losses cut =
    let none = after_losing_all w a b in
    let one = end_quiet none cut.middle a (end_with none.directions a b) cut.first cut.one in
    let other = end_quiet cut.middle next b (end_with cut.middle.directions b a) cut.second cut.other in
    none_then w.directions none.directions next.directions (same_sides w.directions none.directions (sides_emptied a b w.directions))
    (none_then none.directions cut.middle.directions next.directions one other)

all_drop_quiet : {node : NodeNo} {peers : List NodeNo} {w last : WorldState} {losses : List LossAt} → DropAll node peers w losses last → NoneNew w.directions
    last.directions
all_drop_quiet (all_dropped {w = w}) = same_sides w.directions w.directions refl
all_drop_quiet {node} (drops_too {peer = peer} {w = w} {next = mid} {last = last} now later is one more) =
    none_then w.directions mid.directions last.directions (end_quiet w mid peer (end_with w.directions peer node) now one) (all_drop_quiet more)

module _ (site : Site) (old new : WorldState) (applied : Bool) (losses : List LossAt) (apart : AreApart (sides old.directions)) where
  abbrev Quiet : Type 0
  Quiet = NoneNew old.directions new.directions

  same_state : new ≡ old → Quiet
  same_state same = same_sides old.directions new.directions (ap (λ (w : WorldState). sides w.directions) same)

  quiet : {grows : Side → Bool} → GoesOn grows old new → Quiet
  quiet on = same_sides old.directions new.directions on.directions.same

  send_quiet : (client to : NodeNo) (message : Message) → Outcome (after_send site old client to message) applied old new → Quiet
  send_quiet client to message out = go (is_client site client) (conn_known old.directions client to) out
    where
      go : (b : Bool) (conn : Option ConnId) → Outcome (cond b (after_send_on old client message conn) None) applied old new → Quiet
      go true None same = same_state same.1
      go true (Some conn) sent =
          same_sides old.directions new.directions (ap (λ (w : WorldState). sides w.directions) sent.1 ∙ sides_posted client old.directions conn message)
      go false conn same = same_state same.1

  lose_quiet : (from to : NodeNo) (place : ℕ) (flight : Option Flight) → loss_at old.directions from to place ≡ flight → Outcome
      (after_lost_message old flight) applied old new → Quiet
  lose_quiet from to place None flies out = same_state out.1
  lose_quiet from to place (Some flight) flies out = same_sides old.directions new.directions (ap (λ (w : WorldState). sides w.directions) out.1 ∙ flight_sides
      (is_between from to) old.directions place (goes_once old.directions apart from to) (Some flight) flies)

  deliver_quiet : (from to : NodeNo) (place : ℕ) (flight : Option Flight) → flight_at old.directions from to place ≡ flight → Delivers site old to flight
      applied new → Quiet
  deliver_quiet from to place None flies made = same_state made.1
  deliver_quiet from to place (Some flight) flies made = same_sides old.directions new.directions
      (go (is_client site to) made.1 ∙ flight_sides (is_heard from to) old.directions place (heard_once old.directions apart from to) (Some flight) flies)
    where
      w : WorldState
      w = record old { directions = flight.directions }

      go : (b : Bool) → MatchBool b (new ≡ after_arrival_at_client w flight.conn flight.message)
          (ArrivesAtServer w to flight.conn flight.message (front_at to w.fronts) new) → sides new.directions ≡ sides flight.directions
      go true same = ap (λ (v : WorldState). sides v.directions) same
      go false turn = (at_server_goes_on always w to (λ side e. refl) flight.conn flight.message (front_at to w.fronts) new turn).directions.same

  cut_quiet : (a b : NodeNo) → Cuts old a b applied losses new → Quiet
  cut_quiet a b made = go (can_cut old a b) made
    where
      go : (c : Bool) → MatchBool c ((applied ≡ true) × CutsBoth old a b losses new) ((applied ≡ false) × (losses ≡ []) × (new ≡ old)) → Quiet
      go true made = cut_both_quiet old new a b losses made.1
      go false made = same_state made.2

  crashed_quiet : (node : NodeNo) → NoneNew old.directions (after_crash old node).directions
  crashed_quiet node = fewer_directions (λ d. not (is_node d.to node)) old.directions

  crash_quiet : (node : NodeNo) (can : Bool) → Outcome (cond can (Some (after_crash old node)) None) applied old new → Quiet
  crash_quiet node true made = none_then old.directions (after_crash old node).directions new.directions (crashed_quiet node)
      (same_sides (after_crash old node).directions new.directions (ap (λ (w : WorldState). sides w.directions) made.1))
  crash_quiet node false made = same_state made.1

  restart_quiet : (node : NodeNo) (can : Bool) → MatchBool can
      ((applied ≡ true) × DropAll node (peers_of node old.directions) (after_crash old node) losses new)
      ((applied ≡ false) × (losses ≡ []) × (new ≡ old)) → Quiet
  restart_quiet node true made = none_then old.directions (after_crash old node).directions new.directions (crashed_quiet node) (all_drop_quiet made.1)
  restart_quiet node false made = same_state made.2

  -- ---- a connection is made

  opened_quiet : (a b : NodeNo) (found : Option Direction) → find (is_unheard b a) old.directions ≡ found
      → Outcome (after_opened_on old a b found) applied old new → Quiet
  opened_quiet a b None f made = same_state made.1
  opened_quiet a b (Some first) f made = none_then old.directions (replace_first (is_unheard b a) (record first { known = true }) old.directions) new.directions
      (one_known (is_unheard b a) first old.directions f)
      (same_sides (replace_first (is_unheard b a) (record first { known = true }) old.directions) new.directions
      (ap (λ (w : WorldState). sides w.directions) made.1))

  -- why a direction stands behind the two that are new
  new_stands : {B : Type 0} (a b : NodeNo) (direction : Direction) → Has direction (with_new_connection old a b).directions →
      (Has direction old.directions → B) → (direction ≡ next_way old a b true → B) → (direction ≡ next_way old b a false → B) → B
  new_stands a b direction h before first second = elim (Has-parts old.directions h) [
    | inl there_still ↦ before there_still
    | inr new_one ↦ elim (Has-cons new_one) [
      | inl is ↦ first is
      | inr more ↦ elim (Has-cons more) [ inl is ↦ second is | inr none ↦ elim none [ ] ]
    ]
  ]

  accept_stands : {B : Type 0} (a b : NodeNo) (direction : Direction) → Has direction new.directions → Outcome (after_accept site old b a) applied old new →
      (Quiet → B) → (can_connect site old a b ≡ true → direction ≡ next_way old a b true → B) →
      (can_connect site old a b ≡ true → direction ≡ next_way old b a false → B) → (Has direction old.directions → B) → B
  accept_stands {B} a b direction h out quietly first second before = go (can_connect site old a b) refl out
    where
      go : (c : Bool) → can_connect site old a b ≡ c → Outcome (cond c (Some (with_new_connection old a b)) None) applied old new → B
      go true can made = new_stands a b direction (subst (λ (w : WorldState). Has direction w.directions) made.1 h) before (first can) (second can)
      go false can same = quietly (same_state same.1)

  -- the one that comes to the node which opens it is known
  module _ (checked : IsSound site) (a b : NodeNo) (can : can_connect site old a b ≡ true) (first : Direction)
      (found : find (is_unheard b a) (with_new_connection old a b).directions ≡ Some first) where
    abbrev middle : List Direction
    middle = (with_new_connection old a b).directions

    abbrev learned : Direction
    learned = record first { known = true }

    abbrev then : List Direction
    then = replace_first (is_unheard b a) learned middle

    then_apart : AreApart (sides then)
    then_apart =
        let parts = and_parts (is_linked site a b) (not (is_connected old.directions a b)) can in
        apart_known (is_unheard b a) first middle found
        (apart_after_up old.directions (next_conn old) a b (linked_are_two checked a b parts.0).apart
        (not-true (is_connected old.directions a b) parts.1) apart)

    none_unknown : (direction : Direction) → Has direction then → direction ≡ next_way old b a false → ⊥
    none_unknown direction h is =
        let goes_first : goes b a learned ≡ true = (and_parts (is_between b a first) (not first.known) (found_passes (is_unheard b a) middle first found)).0 in
        let goes_too : goes b a direction ≡ true = ap (goes b a) is ∙ and_from (is_node b b) (is_node a a) (node_itself b) (node_itself a) in
        let same : direction ≡ learned = same_one (goes b a) then (goes_once then then_apart b a) h
        (Has-replacement (is_unheard b a) first learned middle found) goes_too goes_first in
        true≢false (ap (λ (d : Direction). d.known) (sym same ∙ is))

    then_stands : {B : Type 0} (direction : Direction) → Has direction then → (direction ≡ next_way old a b true → B) →
        (direction ≡ next_way old b a true → B) → ((before : Direction) → Has before old.directions → line_of before ≡ line_of direction → B) → B
    then_stands direction h forth back before = elim (Has-replaced (is_unheard b a) learned middle h) [
      | inl is ↦ new_stands a b first (Has-found (is_unheard b a) middle found) (λ was. before first was (ap line_of (sym is)))
          (λ new_one. forth (is ∙ ap (λ (d : Direction). record d { known = true }) new_one))
          (λ new_one. back (is ∙ ap (λ (d : Direction). record d { known = true }) new_one))
      | inr kept ↦ new_stands a b direction kept (λ was. before direction was refl) forth (λ new_one. absurd (none_unknown direction h new_one))
    ]

  up_stands : {B : Type 0} → IsSound site → (a b : NodeNo) (direction : Direction) → Has direction new.directions →
      Outcome (after_up site old a b) applied old new → (Quiet → B) → (can_connect site old a b ≡ true → direction ≡ next_way old a b true → B) →
      (can_connect site old a b ≡ true → direction ≡ next_way old b a true → B) →
      ((before : Direction) → Has before old.directions → line_of before ≡ line_of direction → B) → B
  up_stands {B} checked a b direction h out quietly first second before = go (can_connect site old a b) refl out
    where
      opens : can_connect site old a b ≡ true → (o : Option Direction) → find (is_unheard b a) (with_new_connection old a b).directions ≡ o → Outcome
          (after_opened_on (with_new_connection old a b) a b o) applied old new → B
      opens can None f same = quietly (same_state same.1)
      opens can (Some one) f made = then_stands checked a b can one f direction (subst (λ (w : WorldState). Has direction w.directions) made.1 h)
          (first can) (second can) before

      go : (c : Bool) → can_connect site old a b ≡ c → Outcome (opened_if a b (cond c (Some (with_new_connection old a b)) None)) applied old new → B
      go true can made = opens can (find (is_unheard b a) (with_new_connection old a b).directions) refl made
      go false can same = quietly (same_state same.1)

pub step_stands : {site : Site} (t : Transition) → IsSound site → AreApart (sides t.before.directions) →
    FarmStep site t.before t.step t.applied t.losses t.after → (direction : Direction) → Has direction t.after.directions → StandsAfter site t direction
step_stands {site} t checked apart made direction h = go t.step refl made
  where
    none_new : NoneNew t.before.directions t.after.directions → StandsAfter site t direction
    none_new none = all_stood t none direction h

    old : WorldState
    old = t.before

    go : (step : Step) → t.step ≡ step → FarmStep site t.before step t.applied t.losses t.after → StandsAfter site t direction
    go (Up a b) is m =
        up_stands site old t.after t.applied t.losses apart checked a b direction h m.0 none_new (λ can same. first_made a b is can same)
        (λ can same. second_made a b is can same)
        (λ before was line. stood before (Contains-has was) (ap (λ (l : Line). l.0) line) (ap (λ (l : Line). l.1) line) (ap (λ (l : Line). l.2) line))
    go (Accept at from) is m =
        accept_stands site old t.after t.applied t.losses apart from at direction h m.0 none_new (λ can same. first_accepted at from is can same)
        (λ can same. second_accepted at from is can same) (λ there_still. stood direction (Contains-has there_still) refl refl refl)
    go (Opened a b) is m = none_new (opened_quiet site old t.after t.applied t.losses apart a b (find (is_unheard b a) old.directions) refl m.0)
    go (Send client to message) is m = none_new (send_quiet site old t.after t.applied t.losses apart client to message m.0)
    go (Deliver from to place) is m = none_new (deliver_quiet site old t.after t.applied t.losses apart from to place (flight_at old.directions from to place)
        refl m.0)
    go (Lose from to place) is m = none_new (lose_quiet site old t.after t.applied t.losses apart from to place (loss_at old.directions from to place) refl
        m.0)
    go (Cut a b) is m = none_new (cut_quiet site old t.after t.applied t.losses apart a b m)
    go (Drop a b) is m = none_new (end_quiet old t.after a (end_with old.directions a b) t.losses m.1)
    go (Crash node) is m = none_new (crash_quiet site old t.after t.applied t.losses apart node (can_restart site node) m.0)
    go (Restart node) is m = none_new (restart_quiet site old t.after t.applied t.losses apart node (can_restart site node) m)
    go (Pick node worker) is m = none_new (quiet site old t.after t.applied t.losses apart
        (outcome_goes_on always old (after_pick_at old node worker (front_at node old.fronts)) t.applied t.after
        (pick_goes_on always old node worker (front_at node old.fronts)) m.0))
    go (Charge node worker moment) is m =
        none_new (quiet site old t.after t.applied t.losses apart
        (outcome_goes_on always old (after_charge_at old node worker moment (front_at node old.fronts)) t.applied t.after
        (charge_goes_on always old node worker moment (front_at node old.fronts)) m.0))
    go (Refuse node worker) is m =
        none_new (quiet site old t.after t.applied t.losses apart
        (outcome_goes_on always old (after_refusal_at old node worker (front_at node old.fronts)) t.applied t.after
        (refuse_goes_on always old node worker (front_at node old.fronts)) m.0))
    go (Emit node worker) is m = none_new (quiet site old t.after t.applied t.losses apart
        (outcome_goes_on always old (after_emit_at old node worker (front_at node old.fronts)) t.applied t.after
        (emit_goes_on always old node (λ side e. refl) worker (front_at node old.fronts)) m.0))
    go (ChangeTerms moment change) is m = let changed = same_goes_on always (after_change_at old moment change) t.after m.0.1 in none_new
        (same_sides old.directions t.after.directions changed.directions.same)
    go (Sweep moment) is m = let swept = same_goes_on always (after_sweep_at old moment) t.after m.0.1 in none_new
        (same_sides old.directions t.after.directions swept.directions.same)
