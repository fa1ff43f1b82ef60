-- Nodes learn that connections of theirs have ended.
use Rattle.std.proofs.Common.{◌≡◌, ℕ, Bool, true, false, cond, List, [], ◌∷◌, ◌++◌, get_or, Option, Some, None, refl, sym, subst, ap, ◌∙◌, append_assoc, append-nil, true≢false}
use Rattle.std.specs.Prelude.{MatchBool}
use Rattle.dia_base.specs.declared.number.NodeNo.{NodeNo}
use Rattle.front_core.specs.FrontState.{FrontState}
use Rattle.front_core.specs.FrontStep.{without_connection}
use Rattle.farm_model.specs.declared.state.Direction.{Direction}
use Rattle.farm_model.specs.declared.state.FrontAt.{FrontAt}
use Rattle.farm_base.specs.Lists.{IsFirst}
use Rattle.farm_base.specs.declared.site.Site.{Site}
use Rattle.farm_model.specs.FarmStep.{Outcome, DropsIt, can_cut, Cuts, can_restart, after_crash_at, Restarts}
use Rattle.farm_model.specs.Loss.{Loss, LossAt, LearnsLoss, LearnLosses, all_know, learns, after_end, end_with, Drops, after_losing_all, CutsBoth, after_crash, peers_of, DropAll, all_dropped, drops_too}
use Rattle.farm_model.specs.Run.{TellsSame}
use Rattle.farm_model.specs.World.{WorldState, is_between, is_front_at, front_at, with_traffic_from}
use Rattle.farm_model.proofs.Lists.ListLemmas.{first_item}
use Rattle.farm_model.proofs.Wiring.WorldLemmas.{front_found, front_changed}
use Rattle.farm_node.specs.Events.{NodeEvent as event}
use Rattle.farm_node.specs.Nodes.{OnFrontEvent}
use Rattle.dia_message.specs.Traffic.{Traffic}
use Rattle.farm_world.specs.NodeEvents.{Reacts}
use Rattle.farm_world.proofs.NodeEvents.{forgotten}
use Rattle.farm_world.proofs.Turning.{fronts_with, with_parts}

-- ---- one node learns it

pub learnt_by_front : (w : WorldState) (loss : Loss) (place : ℕ) (part : FrontAt) (front : FrontState) (directions : List Direction) (sent : Traffic) → IsFirst (is_front_at loss.node) w.fronts place → part ≡ get_or w.fronts place part
    → Reacts OnFrontEvent part.front (event.lost loss.conn) sent front → directions ≡ with_traffic_from loss.node w.directions sent
    → LearnsLoss w loss (front_at loss.node w.fronts) (with_parts w directions (fronts_with w place part front))
learnt_by_front w loss place part front directions sent first read takes directions_are =
    subst (λ (o : Option FrontState). LearnsLoss w loss o (with_parts w directions (fronts_with w place part front))) (sym (front_found loss.node w.fronts place part first read))
    (ap (λ (ds : List Direction). with_parts w ds (fronts_with w place part front)) (directions_are ∙ ap (with_traffic_from loss.node w.directions) forgets.0)
    ∙ ap (with_parts w w.directions) (ap (fronts_with w place part) forgets.1 ∙ front_changed loss.node w.fronts place part (without_connection part.front loss.conn) first read))
  where
    forgets : (sent ≡ []) × (front ≡ without_connection part.front loss.conn)
    forgets = forgotten part.front loss.conn sent front takes

-- ---- one more at the end drops its connection

pub DropAll-push : {node : NodeNo} {peers : List NodeNo} {w mid : WorldState} {known : List LossAt} (peer : NodeNo) (now : List LossAt) (next : WorldState) → DropAll
    node peers w known mid → Drops mid peer node now next → DropAll node (peers ++ peer ∷ []) w (known ++ now) next
DropAll-push peer now next all_dropped last = drops_too now [] (sym (append-nil now)) last all_dropped
DropAll-push peer now next (drops_too first later is one rest) last = drops_too first (later ++ now)
    (ap (λ (ls : List LossAt). ls ++ now) is ∙ append_assoc first later now) one (DropAll-push peer now next rest last)

pub TellsSame-on : (old mid new : WorldState) → TellsSame old mid → TellsSame mid new → TellsSame old new
TellsSame-on old mid new first then = (then.0 ∙ first.0, then.1 ∙ first.1, then.2 ∙ first.2, then.3 ∙ first.3)

-- ---- an end goes

-- the node knew the connection, and learns that it has ended
pub dropped_known : (w : WorldState) (a b : NodeNo) (place : ℕ) (part : Direction) (next : WorldState) → IsFirst (is_between b a) w.directions place → part ≡ get_or w.directions place part → part.known ≡ true
    → LearnsLoss (after_end w a part.conn) (record { node = a; conn = part.conn }) (front_at a w.fronts) next → (known : List LossAt) × DropsIt w a (end_with w.directions a b) true known next
dropped_known w a b place part next first read knew learned =
    let found = first_item (is_between b a) w.directions place part first read in
    let loss : Loss = record { node = a; conn = part.conn } in
    let known : List LossAt = record { loss = loss; before = after_end w a part.conn } ∷ [] in (
      known,
      subst (λ (o : Option Direction). DropsIt w a o true known next) (sym found)
          (refl, subst (λ (b : Bool). MatchBool b (LearnLosses (loss ∷ []) (after_end w a part.conn) known next) ((known ≡ []) × (next ≡ after_end w a part.conn))) (sym knew) (learns learned all_know)),
    )

abbrev no_losses : List LossAt
no_losses = []

-- it did not know it yet
pub dropped_unknown : (w : WorldState) (a b : NodeNo) (place : ℕ) (part : Direction) (next : WorldState) → IsFirst (is_between b a) w.directions place → part ≡ get_or w.directions place part → part.known ≡ false
    → next ≡ after_end w a part.conn → (known : List LossAt) × DropsIt w a (end_with w.directions a b) true known next
dropped_unknown w a b place part next first read knew left = (
  [],
  subst (λ (o : Option Direction). DropsIt w a o true [] next) (sym (first_item (is_between b a) w.directions place part first read))
      (refl, subst (λ (b : Bool). MatchBool b (LearnLosses (record { node = a; conn = part.conn } ∷ []) (after_end w a part.conn) [] next) (([] ≡ no_losses) × (next ≡ after_end w a part.conn))) (sym knew) (refl, left)),
)

-- ---- both ends go

pub cut_turn : (w middle next : WorldState) (a b : NodeNo) (one_applied other_applied : Bool) → can_cut w a b ≡ true → (first : List LossAt) × DropsIt (after_losing_all w a b) a (end_with (after_losing_all w a b).directions a b) one_applied first middle
    → (second : List LossAt) × DropsIt middle b (end_with middle.directions b a) other_applied second next → (known : List LossAt) × Cuts w a b true known next
cut_turn w middle next a b one_applied other_applied can first second =
    let known : List LossAt = first.0 ++ second.0 in (
      known,
      subst (λ (c : Bool). MatchBool c ((true ≡ true) × CutsBoth w a b known next) ((true ≡ false) × (known ≡ []) × (next ≡ w))) (sym can)
          (refl, record { first = first.0; second = second.0; middle = middle; one = first.1.1; other = second.1.1; both = refl }),
    )

-- ---- a node begins anew

pub restart_turn : (site : Site) (w mid next : WorldState) (node : NodeNo) (peers : List NodeNo) → peers ≡ peers_of node w.directions → Outcome (after_crash_at site w node) true w mid
    → (known : List LossAt) × DropAll node peers mid known next → (known : List LossAt) × Restarts site w node true known next
restart_turn site w mid next node peers peers_are crashed dropped = (dropped.0, go (can_restart site node) crashed)
  where
    go : (c : Bool) → Outcome (cond c (Some (after_crash w node)) None) true w mid
        → MatchBool c ((true ≡ true) × DropAll node (peers_of node w.directions) (after_crash w node) dropped.0 next) ((true ≡ false) × (dropped.0 ≡ []) × (next ≡ w))
    go true made = (refl, subst (λ (ps : List NodeNo). DropAll node ps (after_crash w node) dropped.0 next) peers_are (subst (λ (v : WorldState). DropAll node peers v dropped.0 next) made.1 dropped.1))
    go false made = absurd (true≢false made.0)

pub no_restart_turn : (site : Site) (w mid : WorldState) (node : NodeNo) → Outcome (after_crash_at site w node) false w mid → (known : List LossAt) × Restarts site w node false known mid
no_restart_turn site w mid node crashed = ([], go (can_restart site node) crashed)
  where
    go : (c : Bool) → Outcome (cond c (Some (after_crash w node)) None) false w mid
        → MatchBool c ((false ≡ true) × DropAll node (peers_of node w.directions) (after_crash w node) [] mid) ((false ≡ false) × (no_losses ≡ []) × (mid ≡ w))
    go true made = absurd (true≢false (sym made.0))
    go false made = (refl, refl, made.1)
