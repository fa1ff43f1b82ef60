-- One request is picked, charged and answered: three steps of the farm.
use Rattle.std.proofs.Common.{◌≡◌, ℕ, zero, suc, ◌<◌, ◌≤◌, Bool, true, false, cond, leb, List, [], ◌∷◌, length}
use Rattle.std.proofs.Common.{Option, Some, Result, Ok, Err, refl, sym, subst, ap, ◌∙◌, rules}
use Rattle.std.specs.Prelude.{option_map, slice_get, slice_set, unwrap_or}
use Rattle.std.specs.List.{find}
use Rattle.dia_base.specs.declared.number.ConnId.{ConnId}
use Rattle.dia_base.specs.declared.number.Moment.{Moment}
use Rattle.dia_base.specs.declared.number.NodeNo.{NodeNo}
use Rattle.dia_message.specs.declared.message.Message.{Message}
use Rattle.dia_message.specs.Traffic.{Traffic}
use Rattle.cc_view.specs.declared.refusal.Refusal.{Refusal}
use Rattle.cc_view.specs.declared.reply.CcReply.{CcReply}
use Rattle.cc_view.specs.declared.request.CcRequest.{CcRequest}
use Rattle.cc_book.specs.declared.book.Answered.{Answered}
use Rattle.cc_book.specs.declared.book.BookRefusal.{BookRefusal}
use Rattle.cc_book.specs.declared.book.BookRefusal.TheVariants.{Full}
use Rattle.cc_book.specs.AccountMachine.{reply_to}
use Rattle.cc_book.specs.Duplicate.{key_of}
use Rattle.cc_book.specs.History.{place_of}
use Rattle.cc_book.specs.Taking.{Ledger, answer_by as answer_kept, is_fresh, with_take}
use Rattle.front_core.specs.declared.site.FrontSite.{FrontSite}
use Rattle.front_core.specs.declared.worker.Job.{Job}
use Rattle.front_core.specs.declared.worker.Worker.{Worker}
use Rattle.front_core.specs.declared.worker.Worker.TheVariants.{Idle, Picked, Done}
use Rattle.front_core.specs.ChargeCases.{IsCharge, refuses, repeats, has_no_room, takes}
use Rattle.front_core.specs.Charging.{preparation_of, answer_by, answer_in, book_after}
use Rattle.front_core.specs.FrontState.{FrontState, is_among}
use Rattle.front_core.specs.FrontStep.{with_worker, preparation_at, after_pick_by, after_charge_by, after_emit_by}
use Rattle.farm_base.specs.declared.site.Site.{Site}
use Rattle.farm_base.specs.declared.step.Step.TheVariants.{Pick, Charge, Emit}
use Rattle.farm_base.specs.Nodes.{is_node}
use Rattle.farm_model.specs.declared.state.FrontAt.{FrontAt}
use Rattle.farm_model.specs.FarmStep.{FarmStep, Outcome, with_pick, with_charge, with_emit, after_pick_at, after_charge_at, after_emit_at}
use Rattle.farm_model.specs.World.{WorldState, is_front_at, with_front, front_at, with_traffic_from}
use Rattle.farm_model.proofs.Lists.Numbering.{same_node, node_itself}

-- ---- a charge has one outcome

full_test : (a b : ℕ) → a ≤ b → leb a b ≡ true
full_test a b h = search rules

room_test : (a b : ℕ) → b < a → leb a b ≡ false
room_test a b h = search rules

module _ (site : FrontSite) (ledger : Ledger) (moment : Moment) (message : Message) where
  abbrev answer_at : Result CcRequest Refusal → Message
  answer_at view = answer_in site ledger message (preparation_of site.name site.realm message view)

  abbrev book_at : Result CcRequest Refusal → Ledger
  book_at view = book_after ledger moment (preparation_of site.name site.realm message view)

  abbrev place : CcRequest → ℕ
  place request = unwrap_or (place_of ledger.history (key_of request)) 0

  abbrev answer_for : CcRequest → Result Answered BookRefusal → Message
  answer_for request answered = answer_by site message request answered

  abbrev book_for : CcRequest → Result Answered BookRefusal → Ledger
  book_for request answered = cond (is_fresh answered) (with_take ledger moment request) ledger

  abbrev new_answer : CcRequest → Bool → Result Answered BookRefusal
  new_answer request b =
      cond b (Err (Full ledger.limit)) (Ok (record { reply = reply_to ledger.terms ledger.history request; place = length ledger.history; fresh = true }))

  pub charge_answers : (answer : Message) (book : Ledger) → IsCharge site ledger moment message answer book →
      answer_in site ledger message (preparation_at site message) ≡ answer
  charge_answers _ _ (refuses refusal view) = ap answer_at view
  charge_answers _ _ (repeats request reply view kept) =
      ap answer_at view ∙ ap (λ (k : Option CcReply). answer_for request (answer_kept ledger request (place request) k)) kept
  charge_answers _ _ (has_no_room request view new reached) =
      ap answer_at view ∙ ap (λ (k : Option CcReply). answer_for request (answer_kept ledger request (place request) k)) new
      ∙ ap (λ (b : Bool). answer_for request (new_answer request b)) (full_test ledger.limit (length ledger.history) reached)
  charge_answers _ _ (takes request view new room) =
      ap answer_at view ∙ ap (λ (k : Option CcReply). answer_for request (answer_kept ledger request (place request) k)) new
      ∙ ap (λ (b : Bool). answer_for request (new_answer request b)) (room_test ledger.limit (length ledger.history) room)

  pub charge_leaves : (answer : Message) (book : Ledger) → IsCharge site ledger moment message answer book →
      book_after ledger moment (preparation_at site message) ≡ book
  charge_leaves _ _ (refuses refusal view) = ap book_at view
  charge_leaves _ _ (repeats request reply view kept) =
      ap book_at view ∙ ap (λ (k : Option CcReply). book_for request (answer_kept ledger request (place request) k)) kept
  charge_leaves _ _ (has_no_room request view new reached) =
      ap book_at view ∙ ap (λ (k : Option CcReply). book_for request (answer_kept ledger request (place request) k)) new
      ∙ ap (λ (b : Bool). book_for request (new_answer request b)) (full_test ledger.limit (length ledger.history) reached)
  charge_leaves _ _ (takes request view new room) =
      ap book_at view ∙ ap (λ (k : Option CcReply). book_for request (answer_kept ledger request (place request) k)) new
      ∙ ap (λ (b : Bool). book_for request (new_answer request b)) (room_test ledger.limit (length ledger.history) room)

-- ---- one worker changed

get_set : (xs : List Worker) (i : ℕ) (x y : Worker) → slice_get xs i ≡ Some y → slice_get (slice_set xs i x) i ≡ Some x
get_set [] i x y e = absurd cc
get_set (z ∷ zs) zero x y e = refl
get_set (z ∷ zs) (suc i) x y e = get_set zs i x y e

set_back : (xs : List Worker) (i : ℕ) (x one two : Worker) → slice_get xs i ≡ Some x → slice_set (slice_set (slice_set xs i one) i two) i x ≡ xs
set_back [] i x one two e = absurd cc
set_back (z ∷ zs) zero x one two e = let same : z ≡ x = cc in ap (λ (v : Worker). v ∷ zs) (sym same)
set_back (z ∷ zs) (suc i) x one two e = ap (λ (vs : List Worker). z ∷ vs) (set_back zs i x one two e)

-- ---- one front changed

pub front_now : (node : NodeNo) (new old : FrontState) (fronts : List FrontAt) → front_at node fronts ≡ Some old →
    front_at node (with_front node new fronts) ≡ Some new
front_now node new old [] e = absurd cc
front_now node new old (at ∷ fronts) e = go (is_node at.node node) refl (front_now node new old fronts) e
  where
    go : (b : Bool) → is_node at.node node ≡ b → (front_at node fronts ≡ Some old → front_at node (with_front node new fronts) ≡ Some new) → option_map
        (λ (a : FrontAt). a.front) (cond b (Some at) (find (is_front_at node) fronts)) ≡ Some old
        → option_map (λ (a : FrontAt). a.front) (find (is_front_at node)
        (cond b (record { node = node; front = new } ∷ fronts) (at ∷ with_front node new fronts))) ≡ Some new
    go true is more k = ap (λ (b : Bool). option_map (λ (a : FrontAt). a.front)
        (cond b (Some (record { node = node; front = new })) (find (is_front_at node) fronts))) (node_itself node)
    go false is more k = ap (λ (b : Bool). option_map (λ (a : FrontAt). a.front) (cond b (Some at) (find (is_front_at node) (with_front node new fronts)))) is
        ∙ more k

pub front_elsewhere : (node : NodeNo) (new : FrontState) (fronts : List FrontAt) (other : NodeNo) → is_node node other ≡ false → front_at other
    (with_front node new fronts) ≡ front_at other fronts
front_elsewhere node new [] other apart = refl
front_elsewhere node new (at ∷ fronts) other apart = go (is_node at.node node) refl (front_elsewhere node new fronts other apart)
  where
    behind : (b : Bool) → front_at other (with_front node new fronts) ≡ front_at other fronts
        → option_map (λ (a : FrontAt). a.front) (cond b (Some at) (find (is_front_at other) (with_front node new fronts))) ≡ option_map
        (λ (a : FrontAt). a.front) (cond b (Some at) (find (is_front_at other) fronts))
    behind true more = refl
    behind false more = more

    go : (b : Bool) → is_node at.node node ≡ b → front_at other (with_front node new fronts) ≡ front_at other fronts
        → option_map (λ (a : FrontAt). a.front) (find (is_front_at other)
        (cond b (record { node = node; front = new } ∷ fronts) (at ∷ with_front node new fronts))) ≡ front_at other (at ∷ fronts)
    go true is more =
        let passed : is_node at.node other ≡ false = ap (λ (m : NodeNo). is_node m other) (same_node at.node node is) ∙ apart in
        ap (λ (b : Bool). option_map (λ (a : FrontAt). a.front) (cond b (Some (record { node = node; front = new })) (find (is_front_at other) fronts))) apart
        ∙ sym (ap (λ (b : Bool). option_map (λ (a : FrontAt). a.front) (cond b (Some at) (find (is_front_at other) fronts))) passed)
    go false is more = behind (is_node at.node other) more

-- ---- the three steps

module _ (site : Site) (node : NodeNo) (worker : ℕ) (front : FrontState) (idle : slice_get front.workers worker ≡ Some Idle) where
  -- the front with these jobs in its queue, and otherwise as it was
  abbrev pub holding : List Job → FrontState
  holding jobs = record front { queue = jobs }

  module _ (jobs : List Job) (conn : ConnId) (message answer : Message) where
    abbrev pub picked : FrontState
    picked = with_worker (holding jobs) worker (Picked conn message)

    abbrev pub done : FrontState
    done = with_worker picked worker (Done conn answer)

    abbrev pub emitted : FrontState
    emitted = with_worker done worker Idle

    pub emitted_is : emitted ≡ holding jobs
    emitted_is = ap (λ (ws : List Worker). record front { queue = jobs; workers = ws })
        (set_back front.workers worker Idle (Picked conn message) (Done conn answer) idle)

    -- what goes out
    abbrev pub sent : Traffic
    sent = cond (is_among front.connections conn) ((conn, answer) ∷ []) []

    module _ (w : WorldState) (book : Ledger) where
      abbrev pub after_pick : WorldState
      after_pick = record w { fronts = with_front node picked w.fronts }

      abbrev pub after_charge : WorldState
      after_charge = record w { fronts = with_front node done (with_front node picked w.fronts); book = book }

      abbrev pub after_emit : WorldState
      after_emit = record w {
        fronts = with_front node emitted (with_front node done (with_front node picked w.fronts));
        book = book;
        directions = with_traffic_from node w.directions sent;
      }

      module _ (looked : front_at node w.fronts ≡ Some (holding (record { conn = conn; request = message } ∷ jobs))) where
        pub pick_goes : FarmStep site w (Pick node worker) true [] after_pick
        pick_goes =
            let job : Job = record { conn = conn; request = message } in (
              subst (λ (found : Option FrontState). Outcome (after_pick_at w node worker found) true w after_pick) (sym looked)
                  (subst (λ (held : Option Worker). Outcome (with_pick w node (after_pick_by (holding (job ∷ jobs)) worker held)) true w after_pick) (sym idle)
                  (refl, refl)),
              refl,
            )

        looked_picked : front_at node (with_front node picked w.fronts) ≡ Some picked
        looked_picked = front_now node picked (holding (record { conn = conn; request = message } ∷ jobs)) w.fronts looked

        held_picked : slice_get (slice_set front.workers worker (Picked conn message)) worker ≡ Some (Picked conn message)
        held_picked = get_set front.workers worker (Picked conn message) Idle idle

        pub charge_goes : (moment : Moment) → IsCharge front.site w.book moment message answer book →
            FarmStep site after_pick (Charge node worker moment) true [] after_charge
        charge_goes moment charge =
            let answers = charge_answers front.site w.book moment message answer book charge in
            let leaves = charge_leaves front.site w.book moment message answer book charge in
            let given = answer_in front.site w.book message (preparation_at front.site message) in
            let left = book_after w.book moment (preparation_at front.site message) in
            let fronts = with_front node picked w.fronts in
            let by_answer : record w { fronts = with_front node done fronts; book = book } ≡
            record w { fronts = with_front node (with_worker picked worker (Done conn given)) fronts; book = book } =
            ap (λ (a : Message). record w { fronts = with_front node (with_worker picked worker (Done conn a)) fronts; book = book }) (sym answers) in
            let by_book : record w { fronts = with_front node (with_worker picked worker (Done conn given)) fronts; book = book } ≡
            record w { fronts = with_front node (with_worker picked worker (Done conn given)) fronts; book = left } =
            ap (λ (b : Ledger). record w { fronts = with_front node (with_worker picked worker (Done conn given)) fronts; book = b }) (sym leaves) in (
              subst (λ (found : Option FrontState). Outcome (after_charge_at after_pick node worker moment found) true after_pick after_charge)
                  (sym looked_picked)
                  (subst (λ (held : Option Worker). Outcome (with_charge after_pick node (after_charge_by picked w.book moment worker held)) true after_pick
                  after_charge) (sym held_picked) (refl, by_answer ∙ by_book)),
              refl,
            )

        looked_done : front_at node (with_front node done (with_front node picked w.fronts)) ≡ Some done
        looked_done = front_now node done picked (with_front node picked w.fronts) looked_picked

        held_done : slice_get done.workers worker ≡ Some (Done conn answer)
        held_done = get_set (slice_set front.workers worker (Picked conn message)) worker (Done conn answer) (Picked conn message) held_picked

        pub emit_goes : FarmStep site after_charge (Emit node worker) true [] after_emit
        emit_goes = (
          subst (λ (found : Option FrontState). Outcome (after_emit_at after_charge node worker found) true after_charge after_emit) (sym looked_done)
              (subst (λ (held : Option Worker). Outcome (with_emit after_charge node (after_emit_by done worker held)) true after_charge after_emit)
              (sym held_done) (refl, refl)),
          refl,
        )

        pub looked_after : front_at node after_emit.fronts ≡ Some (holding jobs)
        looked_after =
            front_now node emitted done (with_front node done (with_front node picked w.fronts)) looked_done
            ∙ ap (λ (f : FrontState). Some f) emitted_is

      pub others_after : (other : NodeNo) → is_node node other ≡ false → front_at other after_emit.fronts ≡ front_at other w.fronts
      others_after other apart =
          front_elsewhere node emitted (with_front node done (with_front node picked w.fronts)) other apart
          ∙ front_elsewhere node done (with_front node picked w.fronts) other apart
          ∙ front_elsewhere node picked w.fronts other apart
