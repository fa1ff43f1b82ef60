-- At each step the book changes by charges, sweeps and changes of the terms alone, and a connection that is made is told and stands both ways.
use Rattle.std.proofs.Common.{◌≡◌, ℕ, Bool, true, false, cond, not, List, [], ◌∷◌, ◌++◌, Option}
use Rattle.std.proofs.Common.{Some, None, inl, inr, refl, sym, subst, ap, ◌∙◌, append-nil, true≢false}
use Rattle.std.specs.Prelude.{MatchBool, IfSome, unwrap_or, ◌&&◌}
use Rattle.std.proofs.lemmas.Bool.{and_parts, and_from, both_ways, not-true}
use Rattle.std.specs.List.{find}
use Rattle.dia_base.specs.declared.number.ConnId.{ConnId}
use Rattle.dia_base.specs.declared.number.Moment.{Moment}
use Rattle.dia_base.specs.declared.number.NodeNo.{NodeNo}
use Rattle.dia_base.proofs.Finding.{found_passes}
use Rattle.dia_message.specs.declared.message.Message.{Message}
use Rattle.dia_message.specs.Traffic.{Traffic}
use Rattle.cc_book.specs.Taking.{Ledger}
use Rattle.front_core.specs.FrontState.{FrontState, is_among}
use Rattle.front_core.specs.FrontStep.{after_pick, after_charge, after_refusal, after_emit}
use Rattle.relay_core.specs.declared.run.RelayEvent.TheVariants.{Received}
use Rattle.farm_law.specs.Lists.{Has, here, there}
use Rattle.farm_base.specs.declared.site.Site.{Site}
use Rattle.farm_model.specs.declared.state.Direction.{Direction}
use Rattle.farm_base.specs.declared.step.Step.{Step}
use Rattle.farm_base.specs.declared.step.Step.TheVariants.{Up, Accept, Opened, Send, Deliver, Lose, Cut, Drop}
use Rattle.farm_base.specs.declared.step.Step.TheVariants.{Restart, Crash, Pick, Charge, Refuse, Emit, Sweep, ChangeTerms}
use Rattle.farm_model.specs.Arrival.{after_arrival_at_client, after_arrival_at_front, ArrivesAtServer}
use Rattle.farm_model.specs.BookAndEnds.{charged_by, book_at, ends_made, next_way, KeepsBookAndEnds}
use Rattle.farm_model.specs.FarmStep.{FarmStep, Outcome, Flight, flight_at, loss_at, Delivers, after_lost_message, can_connect, with_new_connection}
use Rattle.farm_model.specs.FarmStep.{next_conn, empty_direction, after_accept, after_opened_on, after_opened, opened_if, after_up, can_cut, after_crash_at}
use Rattle.farm_model.specs.FarmStep.{after_send, after_send_on, with_pick, after_pick_at, after_refusal_at, with_emit, after_emit_at, with_charge}
use Rattle.farm_model.specs.FarmStep.{after_charge_at, can_restart}
use Rattle.farm_model.specs.Loss.{LossAt, LearnLosses, EndGoes, end_with, CutsBoth, after_end, after_losing_all, after_crash, peers_of, DropAll, all_dropped}
use Rattle.farm_model.specs.Loss.{drops_too}
use Rattle.farm_model.specs.SoundSite.{IsSound}
use Rattle.farm_base.specs.Lists.{replace_first}
use Rattle.farm_base.specs.Nodes.{is_client, is_node, is_linked}
use Rattle.farm_model.specs.InFlight.{goes}
use Rattle.farm_model.specs.Run.{Transition}
use Rattle.farm_model.specs.World.{WorldState, is_between, is_connected, is_unheard, conn_known, front_at, relay_at}
use Rattle.farm_model.proofs.Lists.Among.{Has-right, Contains-has, Has-contained}
use Rattle.farm_model.proofs.Lists.Finding.{Has-found, not_found}
use Rattle.farm_model.proofs.Lists.Numbering.{node_itself}
use Rattle.farm_model.proofs.Lists.Replacing.{Has-replacement, Has-beside}
use Rattle.farm_model.proofs.Wiring.Apart.{AreApart, goes_once}
use Rattle.farm_model.proofs.Wiring.ApartAfterStep.{apart_after_up}
use Rattle.farm_model.proofs.Wiring.KnowsAfterUp.{same_one}
use Rattle.farm_model.proofs.Wiring.Linked.{linked_are_two}
use Rattle.farm_model.proofs.Clients.Hearing.{at_relay_tells, losses_tell}
use Rattle.farm_model.proofs.BookAndEnds.KeepingStanding.{step_stands}
use Rattle.farm_model.proofs.Wiring.Sides.{sides}

-- the book and the connections are the same
abbrev Same : WorldState → WorldState → Type 0
Same old new = (new.book ≡ old.book) × (new.ends ≡ old.ends)

-- what the step makes of them
abbrev Made : Site → Step → WorldState → WorldState → Type 0
Made site step old new = (new.book ≡ book_at step old) × (new.ends ≡ old.ends ++ ends_made site step old)

same_made : (old new : WorldState) → Same old new → (new.book ≡ old.book) × (new.ends ≡ old.ends ++ [])
same_made old new same = (same.0, same.1 ∙ sym (append-nil old.ends))

same_state : (old new : WorldState) → new ≡ old → Same old new
same_state old new is = (ap (λ (w : WorldState). w.book) is, ap (λ (w : WorldState). w.ends) is)

module _ (old : WorldState) where
  outcome_same : (o : Option WorldState) (applied : Bool) (new : WorldState) → IfSome o (Same old) → Outcome o applied old new → Same old new
  outcome_same None applied new same made = same_state old new made.1
  outcome_same (Some next) applied new same made = subst (Same old) (sym made.1) same

  picked_same : (node : NodeNo) (o : Option FrontState) → IfSome (with_pick old node o) (Same old)
  picked_same node None = tt
  picked_same node (Some front) = (refl, refl)

  pick_same : (node : NodeNo) (worker : ℕ) (o : Option FrontState) → IfSome (after_pick_at old node worker o) (Same old)
  pick_same node worker None = tt
  pick_same node worker (Some front) = picked_same node (after_pick front worker)

  refuse_same : (node : NodeNo) (worker : ℕ) (o : Option FrontState) → IfSome (after_refusal_at old node worker o) (Same old)
  refuse_same node worker None = tt
  refuse_same node worker (Some front) = picked_same node (after_refusal front worker)

  emitted_same : (node : NodeNo) (o : Option (FrontState × Traffic)) → IfSome (with_emit old node o) (Same old)
  emitted_same node None = tt
  emitted_same node (Some turn) = (refl, refl)

  emit_same : (node : NodeNo) (worker : ℕ) (o : Option FrontState) → IfSome (after_emit_at old node worker o) (Same old)
  emit_same node worker None = tt
  emit_same node worker (Some front) = emitted_same node (after_emit front worker)

  lose_same : (flight : Option Flight) → IfSome (after_lost_message old flight) (Same old)
  lose_same None = tt
  lose_same (Some flight) = (refl, refl)

  send_same : (site : Site) (client to : NodeNo) (message : Message) → IfSome (after_send site old client to message) (Same old)
  send_same site client to message = go (is_client site client) (conn_known old.directions client to)
    where
      go : (b : Bool) (conn : Option ConnId) → IfSome (cond b (after_send_on old client message conn) None) (Same old)
      go true None = tt
      go true (Some conn) = (refl, refl)
      go false conn = tt

  opened_same : (a b : NodeNo) (found : Option Direction) → IfSome (after_opened_on old a b found) (Same old)
  opened_same a b None = tt
  opened_same a b (Some direction) = (refl, refl)

  crash_same : (node : NodeNo) (can : Bool) → IfSome (cond can (Some (after_crash old node)) None) (Same old)
  crash_same node true = (refl, refl)
  crash_same node false = tt

same_longer : (one two three : WorldState) → Same one two → Same two three → Same one three
same_longer one two three first second = (second.0 ∙ first.0, second.1 ∙ first.1)

-- what is new is found
new_not_lost : (old : WorldState) (a b : NodeNo) → find (is_unheard b a) (with_new_connection old a b).directions ≡ None → ⊥
new_not_lost old a b none =
    let is_there : Has (empty_direction (next_conn old) b a false) (with_new_connection old a b).directions = Has-right old.directions (there here) in
    let passes : is_unheard b a (empty_direction (next_conn old) b a false) ≡ true = and_from (is_node b b && is_node a a) true
    (and_from (is_node b b) (is_node a a) (node_itself b) (node_itself a)) refl in
    both_ways (is_unheard b a (empty_direction (next_conn old) b a false)) (not_found (is_unheard b a) none is_there) passes

-- ---- connections end

end_same : (w next : WorldState) (node : NodeNo) (found : Option Direction) (losses : List LossAt) → EndGoes w node found losses next → Same w next
end_same w next node None losses made = same_state w next made.1
end_same w next node (Some first) losses made = go first.known made
  where
    go : (b : Bool) → MatchBool b (LearnLosses (record { node = node; conn = first.conn } ∷ []) (after_end w node first.conn) losses next)
        ((losses ≡ []) × (next ≡ after_end w node first.conn)) → Same w next
    go true learn = let tells = losses_tell learn in (tells.2, tells.3)
    go false idle = (ap (λ (v : WorldState). v.book) idle.1, ap (λ (v : WorldState). v.ends) idle.1)

cut_both_same : (w next : WorldState) (a b : NodeNo) (losses : List LossAt) → CutsBoth w a b losses next → Same w next
cut_both_same w next a b losses cut =
    let none = after_losing_all w a b in
    let one = end_same none cut.middle a (end_with none.directions a b) cut.first cut.one in
    let other = end_same cut.middle next b (end_with cut.middle.directions b a) cut.second cut.other in
    same_longer none cut.middle next one other

all_drop_same : {node : NodeNo} {peers : List NodeNo} {w last : WorldState} {losses : List LossAt} → DropAll node peers w losses last → Same w last
all_drop_same all_dropped = (refl, refl)
all_drop_same {node} (drops_too {peer = peer} {w = w} {next = mid} {last = last} now later is one more) = same_longer w mid last
    (end_same w mid peer (end_with w.directions peer node) now one) (all_drop_same more)

-- both know it
both_known : {site : Site} (old : WorldState) → AreApart (sides old.directions) → IsSound site → (a b : NodeNo) → can_connect site old a b ≡ true →
    (first : Direction) → find (is_unheard b a) (with_new_connection old a b).directions ≡ Some first →
    Has (next_way old a b true) (replace_first (is_unheard b a) (record first { known = true }) (with_new_connection old a b).directions)
    × Has (next_way old b a true) (replace_first (is_unheard b a) (record first { known = true }) (with_new_connection old a b).directions)
both_known {site} old apart checked a b can first f =
    let both = (with_new_connection old a b).directions in
    let parts = and_parts (is_linked site a b) (not (is_connected old.directions a b)) can in
    let both_apart : AreApart (sides both) = apart_after_up old.directions (next_conn old) a b (linked_are_two checked a b parts.0).apart
    (not-true (is_connected old.directions a b) parts.1) apart in
    let passes = and_parts (is_between b a first) (not first.known) (found_passes (is_unheard b a) both first f) in
    let back : Has (next_way old b a false) both = Has-right old.directions (there here) in
    let goes_back : goes b a (next_way old b a false) ≡ true = and_from (is_node b b) (is_node a a) (node_itself b) (node_itself a) in
    let same : first ≡ next_way old b a false =
    same_one (goes b a) both (goes_once both both_apart b a) (Has-found (is_unheard b a) both f) back passes.0 goes_back in (
      elim (Has-beside (is_unheard b a) first (record first { known = true }) both f (Has-right old.directions here)) [
        | inl is ↦ absurd (true≢false (ap (λ (d : Direction). d.known) (is ∙ same)))
        | inr kept ↦ kept
      ],
      subst (λ (d : Direction). Has d (replace_first (is_unheard b a) (record first { known = true }) both))
          (ap (λ (d : Direction). record d { known = true }) same) (Has-replacement (is_unheard b a) first (record first { known = true }) both f),
    )

module _ (site : Site) (old new : WorldState) (applied : Bool) (losses : List LossAt) where
  accept_made : (at from : NodeNo) → Outcome (after_accept site old at from) applied old new → Made site (Accept at from) old new
  accept_made at from out = go (can_connect site old from at) out
    where
      go : (c : Bool) → Outcome (cond c (Some (with_new_connection old from at)) None) applied old new → (new.book ≡ old.book) ×
          (new.ends ≡ old.ends ++ cond c ((from, at) ∷ []) [])
      go true made = (ap (λ (w : WorldState). w.book) made.1, ap (λ (w : WorldState). w.ends) made.1)
      go false made = same_made old new (same_state old new made.1)

  -- the node that opens it finds it: nothing else in it is unknown to it
  up_made : (a b : NodeNo) → Outcome (after_up site old a b) applied old new → Made site (Up a b) old new
  up_made a b out = go (can_connect site old a b) out
    where
      both : WorldState
      both = with_new_connection old a b

      opens : (o : Option Direction) → find (is_unheard b a) both.directions ≡ o → Outcome (after_opened_on both a b o) applied old new →
          (new.book ≡ old.book) × (new.ends ≡ old.ends ++ (a, b) ∷ [])
      opens None f made = absurd (new_not_lost old a b f)
      opens (Some direction) f made = (ap (λ (w : WorldState). w.book) made.1, ap (λ (w : WorldState). w.ends) made.1)

      go : (c : Bool) → Outcome (opened_if a b (cond c (Some both) None)) applied old new → (new.book ≡ old.book) ×
          (new.ends ≡ old.ends ++ cond c ((a, b) ∷ []) [])
      go true made = opens (find (is_unheard b a) both.directions) refl made
      go false made = same_made old new (same_state old new made.1)

  deliver_same : (to : NodeNo) (flight : Option Flight) → Delivers site old to flight applied new → Same old new
  deliver_same to None made = same_state old new made.1
  deliver_same to (Some flight) made = go (is_client site to) made.1
    where
      w : WorldState
      w = record old { directions = flight.directions }

      by_front : (front : FrontState) (b : Bool) → new ≡ cond b (after_arrival_at_front w to flight.conn flight.message front) w → Same old new
      by_front front true is = (ap (λ (v : WorldState). v.book) is, ap (λ (v : WorldState). v.ends) is)
      by_front front false is = (ap (λ (v : WorldState). v.book) is, ap (λ (v : WorldState). v.ends) is)

      at_server : (front : Option FrontState) → ArrivesAtServer w to flight.conn flight.message front new → Same old new
      at_server (Some front) is = by_front front (is_among front.connections flight.conn) is
      at_server None turn = let tells = at_relay_tells w to (Received flight.conn flight.message) (relay_at to w.relays) new turn in (tells.2, tells.3)

      go : (b : Bool) → MatchBool b (new ≡ after_arrival_at_client w flight.conn flight.message)
          (ArrivesAtServer w to flight.conn flight.message (front_at to w.fronts) new) → Same old new
      go true is = (ap (λ (v : WorldState). v.book) is, ap (λ (v : WorldState). v.ends) is)
      go false turn = at_server (front_at to w.fronts) turn

  charge_made : (node : NodeNo) (worker : ℕ) (moment : Moment) (o : Option FrontState) → Outcome (after_charge_at old node worker moment o) applied old new →
      (new.book ≡ charged_by o old.book worker moment) × (new.ends ≡ old.ends)
  charge_made node worker moment None made = same_state old new made.1
  charge_made node worker moment (Some front) made = go (after_charge front old.book moment worker) made
    where
      go : (o : Option (FrontState × Ledger)) → Outcome (with_charge old node o) applied old new → (new.book ≡ (unwrap_or o (front, old.book)).1) ×
          (new.ends ≡ old.ends)
      go None same = same_state old new same.1
      go (Some turn) is = (ap (λ (w : WorldState). w.book) is.1, ap (λ (w : WorldState). w.ends) is.1)

  cut_same : (a b : NodeNo) (c : Bool) → MatchBool c ((applied ≡ true) × CutsBoth old a b losses new) ((applied ≡ false) × (losses ≡ []) × (new ≡ old)) →
      Same old new
  cut_same a b true made = cut_both_same old new a b losses made.1
  cut_same a b false made = same_state old new made.2

  restart_same : (node : NodeNo) (can : Bool) → MatchBool can
      ((applied ≡ true) × DropAll node (peers_of node old.directions) (after_crash old node) losses new)
      ((applied ≡ false) × (losses ≡ []) × (new ≡ old)) → Same old new
  restart_same node true made = all_drop_same made.1
  restart_same node false made = same_state old new made.2

  step_makes : (step : Step) → FarmStep site old step applied losses new → Made site step old new
  step_makes (Up a b) made = up_made a b made.0
  step_makes (Accept at from) made = accept_made at from made.0
  step_makes (Opened a b) made = same_made old new (outcome_same old (after_opened old a b) applied new
      (opened_same old a b (find (is_unheard b a) old.directions)) made.0)
  step_makes (Send client to message) made = same_made old new
      (outcome_same old (after_send site old client to message) applied new (send_same old site client to message) made.0)
  step_makes (Deliver from to place) made = same_made old new (deliver_same to (flight_at old.directions from to place) made.0)
  step_makes (Lose from to place) made = same_made old new (outcome_same old (after_lost_message old (loss_at old.directions from to place)) applied new
      (lose_same old (loss_at old.directions from to place)) made.0)
  step_makes (Cut a b) made = same_made old new (cut_same a b (can_cut old a b) made)
  step_makes (Drop a b) made = same_made old new (end_same old new a (end_with old.directions a b) losses made.1)
  step_makes (Crash node) made = same_made old new (outcome_same old (after_crash_at site old node) applied new
      (crash_same old node (can_restart site node)) made.0)
  step_makes (Restart node) made = same_made old new (restart_same node (can_restart site node) made)
  step_makes (Pick node worker) made = same_made old new (outcome_same old (after_pick_at old node worker (front_at node old.fronts)) applied new
      (pick_same old node worker (front_at node old.fronts)) made.0)
  step_makes (Charge node worker moment) made = let c = charge_made node worker moment (front_at node old.fronts) made.0 in
      (c.0, c.1 ∙ sym (append-nil old.ends))
  step_makes (Refuse node worker) made = same_made old new (outcome_same old (after_refusal_at old node worker (front_at node old.fronts)) applied new
      (refuse_same old node worker (front_at node old.fronts)) made.0)
  step_makes (Emit node worker) made = same_made old new (outcome_same old (after_emit_at old node worker (front_at node old.fronts)) applied new
      (emit_same old node worker (front_at node old.fronts)) made.0)
  step_makes (Sweep moment) made = (ap (λ (w : WorldState). w.book) made.0.1, ap (λ (w : WorldState). w.ends) made.0.1 ∙ sym (append-nil old.ends))
  step_makes (ChangeTerms moment change) made =
      (ap (λ (w : WorldState). w.book) made.0.1, ap (λ (w : WorldState). w.ends) made.0.1 ∙ sym (append-nil old.ends))

  -- a new connection
  connection_accepted : (a b : NodeNo) → (c : Bool) → c ≡ true → Outcome (cond c (Some (with_new_connection old a b)) None) applied old new → Has
      (next_way old a b true) new.directions × Has (next_way old b a false) new.directions
  connection_accepted a b false connecting made = absurd cc
  connection_accepted a b true connecting made = (
    subst (λ (w : WorldState). Has (next_way old a b true) w.directions) (sym made.1) (Has-right old.directions here),
    subst (λ (w : WorldState). Has (next_way old b a false) w.directions) (sym made.1) (Has-right old.directions (there here)),
  )

  -- of which the node that opens it learns at once
  connection_made : AreApart (sides old.directions) → IsSound site → (a b : NodeNo) → can_connect site old a b ≡ true
      → Outcome (after_up site old a b) applied old new
      → Has (next_way old a b true) new.directions × Has (next_way old b a true) new.directions
  connection_made apart checked a b can out = go (can_connect site old a b) can out
    where
      both : WorldState
      both = with_new_connection old a b

      opens : (o : Option Direction) → find (is_unheard b a) both.directions ≡ o → Outcome (after_opened_on both a b o) applied old new → Has
          (next_way old a b true) new.directions × Has (next_way old b a true) new.directions
      opens None f made = absurd (new_not_lost old a b f)
      opens (Some first) f made =
          let ways = both_known old apart checked a b can first f in (
            subst (λ (w : WorldState). Has (next_way old a b true) w.directions) (sym made.1) ways.0,
            subst (λ (w : WorldState). Has (next_way old b a true) w.directions) (sym made.1) ways.1,
          )

      go : (c : Bool) → c ≡ true → Outcome (opened_if a b (cond c (Some both) None)) applied old new → Has (next_way old a b true) new.directions × Has
          (next_way old b a true) new.directions
      go true is made = opens (find (is_unheard b a) both.directions) refl made
      go false is made = absurd cc

pub step_keeps_book_and_ends : {site : Site} (t : Transition) → IsSound site → AreApart (sides t.before.directions) → FarmStep site t.before t.step t.applied
    t.losses t.after → KeepsBookAndEnds site t
step_keeps_book_and_ends {site} t checked apart made =
    let m = step_makes site t.before t.after t.applied t.losses t.step made in
    record {
      book = m.0;
      ends = m.1;
      made = λ a b is connecting.
          let up = subst (λ (s : Step). FarmStep site t.before s t.applied t.losses t.after) is made in
          let ways = connection_made site t.before t.after t.applied t.losses apart checked a b connecting up.0 in
          (Contains-has ways.0, Contains-has ways.1);
      accepted = λ at from is connecting.
          let accept = subst (λ (s : Step). FarmStep site t.before s t.applied t.losses t.after) is made in
          let ways = connection_accepted site t.before t.after t.applied t.losses from at (can_connect site t.before from at) connecting accept.0 in
          (Contains-has ways.0, Contains-has ways.1);
      stands = λ direction h. step_stands t checked apart made direction (Has-contained h);
    }
