-- A front's worker charges what it picked: it refuses it, repeats a reply, or takes it into the book and answers it.
use Rattle.std.proofs.Common.{◌≡◌, ℕ, ◌<◌, true, List, length, Option, Some, None, inl, inr, refl, sym, subst, arith, Ok}
use Rattle.std.specs.Prelude.{slice_get}
use Rattle.std.proofs.lemmas.Option.{same_Some}
use Rattle.dia_base.specs.declared.number.ConnId.{ConnId}
use Rattle.dia_base.specs.declared.number.Moment.{Moment}
use Rattle.dia_base.specs.declared.number.NodeNo.{NodeNo}
use Rattle.dia_message.specs.declared.message.Message.{Message}
use Rattle.cc_view.specs.declared.code.ResultCode.TheVariants.{TooBusy}
use Rattle.cc_view.specs.declared.refusal.Refusal.{Refusal}
use Rattle.cc_view.specs.declared.request.CcRequest.{CcRequest}
use Rattle.cc_view.specs.Answer.{answer_to}
use Rattle.cc_view.specs.Refusal.{refusal_with}
use Rattle.cc_view.specs.RequestView.{view_under}
use Rattle.cc_book.specs.AccountMachine.{reply_to, kept_reply}
use Rattle.cc_book.specs.History.{IsLegal}
use Rattle.cc_book.specs.Taking.{Ledger, with_take}
use Rattle.front_core.specs.declared.site.FrontSite.{FrontSite}
use Rattle.front_core.specs.declared.worker.Worker.{Worker}
use Rattle.front_core.specs.declared.worker.Worker.TheVariants.{Idle, Picked, Done}
use Rattle.front_core.specs.Answered.{IsBookAnswer}
use Rattle.front_core.specs.Cause.{ChargeCause, by_view, book_full}
use Rattle.front_core.specs.ChargeCases.{IsCharge, refuses, repeats, has_no_room, takes}
use Rattle.front_core.specs.Charging.{answer_in, book_after}
use Rattle.front_core.specs.FrontState.{FrontState}
use Rattle.front_core.specs.FrontStep.{with_worker, preparation_at, after_charge_by}
use Rattle.farm_law.specs.Farm.{Refused}
use Rattle.farm_law.specs.Moves.{Moves, next, answers as book_answers, takes as book_takes}
use Rattle.farm_law.proofs.Lists.{Has-without}
use Rattle.farm_base.specs.declared.site.Site.{Site}
use Rattle.farm_base.specs.declared.step.Step.TheVariants.{Charge}
use Rattle.farm_model.specs.Cause.{at_charge}
use Rattle.farm_model.specs.FarmStep.{with_charge, after_charge_at, Outcome}
use Rattle.farm_base.specs.Nodes.{is_front, name_at}
use Rattle.farm_model.specs.Run.{Transition, front_site}
use Rattle.farm_model.specs.World.{Ends, WorldState, with_front, front_at}
use Rattle.farm_model.proofs.Lists.Among.{Has-get}
use Rattle.farm_model.proofs.Moves.AsFarm.{parties, come_to, gone_from, items_of, farm_of}
use Rattle.farm_model.proofs.Moves.FrontRequests.{FrontHoldsRequests, QueuesHoldRequests, with_worker_holds, front_holds}
use Rattle.farm_model.proofs.Moves.FrontSteps.{front_goes, done_turn, done_refuses}
use Rattle.farm_model.proofs.Moves.Moving.{one_move}
use Rattle.farm_model.proofs.Lists.Placing.{Turned}
use Rattle.farm_model.proofs.Runs.Premises.{Premises}
use Rattle.farm_model.proofs.OwnCauses.Refusing.{as_before}
use Rattle.farm_model.proofs.Moves.StepGoes.{Reason, Goes, StepGoes, outcome_goes}
use Rattle.farm_model.proofs.Wiring.Wired.{IsWired}
use Rattle.farm_model.proofs.Wiring.WiredLemmas.{front_wired}

-- where the message is new and the book has room, it is not refused
not_refused : (site : FrontSite) (ledger : Ledger) (message : Message) (refusal : Refusal) (request : CcRequest)
    → view_under site.profile message ≡ Ok request → length ledger.history < ledger.limit
    → ChargeCause site ledger message refusal → ⊥
not_refused site ledger message refusal request view room (by_view r wrong) = absurd cc
not_refused site ledger message refusal request view room (book_full r read unknown full) = omega (arith, room, full)

-- what was taken is answered by the book after it
taken_is_answered : Premises → (site : FrontSite) (ledger : Ledger) (moment : Moment) (message : Message) (request : CcRequest) → IsLegal ledger.terms
    ledger.history → view_under site.profile message ≡ Ok request
    → kept_reply ledger.terms ledger.history request ≡ None → length ledger.history < ledger.limit
    → IsBookAnswer site (with_take ledger moment request) message
    (answer_to site.name site.realm message request (reply_to ledger.terms ledger.history request))
taken_is_answered premises site ledger moment message request legal view unknown room =
    elim (premises.answers site ledger (with_take ledger moment request) moment message
    (answer_to site.name site.realm message request (reply_to ledger.terms ledger.history request)) legal (takes request view unknown room)) [
      | inl a ↦ a
      | inr r ↦ absurd (not_refused site ledger message r.refusal request view room r.cause)
    ]

module _ (premises : Premises) (site : Site) (made : Ends) (refused : List Refused) (HasReason : Refused → Type 0) where
  abbrev Goes-on : WorldState → WorldState → Type 0
  Goes-on w after = Goes site made HasReason (farm_of made refused w) after

  module _ (w : WorldState) (node : NodeNo) (worker : ℕ) (moment : Moment) (front : FrontState) (conn : ConnId) (message : Message)
      (looked : front_at node w.fronts ≡ Some front) (picked : slice_get front.workers worker ≡ Some (Picked conn message))
      (wired : IsWired site made w) (requests : QueuesHoldRequests w.fronts) (legal : IsLegal w.book.terms w.book.history)
      (reason : (refusal : Refusal) → ChargeCause front.site w.book message refusal → HasReason
      (record { node = node; conn = conn; request = message; refusal = refusal })) where
    abbrev named : FrontSite
    named = front_site site (name_at site node)

    site_is : front.site ≡ named
    site_is = (front_wired wired.fronts looked).site_is

    front_is_one : is_front site node ≡ true
    front_is_one = (front_wired wired.fronts looked).is_front

    holds : FrontHoldsRequests front
    holds = front_holds node w.fronts front requests looked

    is_request : message.header.request ≡ true
    is_request = holds.working (Picked conn message) (Has-get front.workers worker picked)

    -- the worker holds the answer
    abbrev after_it : Message → Ledger → WorldState
    after_it answer book = record w { fronts = with_front node (with_worker front worker (Done conn answer)) w.fronts; book = book }

    answered : (answer : Message) (book : Ledger) → (IsBookAnswer named book message answer → Moves (parties site made) (farm_of made refused w)
        (farm_of made refused (after_it answer book))) → IsBookAnswer named book message answer → Goes-on w (after_it answer book)
    answered answer book moves is =
        front_goes site made refused HasReason w node front (with_worker front worker (Done conn answer)) book refused looked refl
        (with_worker_holds front worker (Done conn answer) tt holds) wired requests (moves is) (as_before HasReason refused)

    turn : (answer : Message) → Turned (come_to made node conn message) (gone_from made node conn answer) (items_of made w.directions w.fronts)
        (items_of made w.directions (with_front node (with_worker front worker (Done conn answer)) w.fronts))
    turn answer = done_turn site made refused HasReason w.directions node w.fronts front worker conn message answer looked picked

    cause_of : (refusal : Refusal) → ChargeCause named w.book message refusal → HasReason
        (record { node = node; conn = conn; request = message; refusal = refusal })
    cause_of refusal cause = reason refusal (subst (λ (s : FrontSite). ChargeCause s w.book message refusal) (sym site_is) cause)

    charge_case : (answer : Message) (book : Ledger) → IsCharge named w.book moment message answer book → Goes-on w (after_it answer book)
    charge_case _ _ (refuses refusal view) = done_refuses site made refused HasReason w node worker front conn message _ refusal looked picked refl wired
        requests (cause_of refusal (by_view refusal view))
    charge_case _ _ (has_no_room request view unknown full) =
        done_refuses site made refused HasReason w node worker front conn message _ (refusal_with TooBusy) looked picked refl wired requests
        (cause_of (refusal_with TooBusy) (book_full request view unknown full))
    charge_case _ _ (repeats request reply view kept) =
        let answer = answer_to named.name named.realm message request reply in
        answered answer w.book (λ is. one_move (book_answers answer (turn answer).old is_request front_is_one is (turn answer).new))
        (record { request = request; view = view; reply = reply; kept = kept; written = refl })
    charge_case _ _ (takes request view unknown room) =
        let answer = answer_to named.name named.realm message request (reply_to w.book.terms w.book.history request) in
        answered answer (with_take w.book moment request)
        (λ is. next (book_takes moment request (Has-without (turn answer).old) is_request view unknown room)
        (one_move (book_answers answer (turn answer).old is_request front_is_one is (turn answer).new)))
        (taken_is_answered premises named w.book moment message request legal view unknown room)

    charged : Goes-on w (after_it (answer_in front.site w.book message (preparation_at front.site message))
        (book_after w.book moment (preparation_at front.site message)))
    charged =
        let answer = answer_in front.site w.book message (preparation_at front.site message) in
        let book = book_after w.book moment (preparation_at front.site message) in
        charge_case answer book (subst (λ (s : FrontSite). IsCharge s w.book moment message answer book) site_is
        (premises.charges front.site w.book moment message))

  charge_by : (w after : WorldState) (node : NodeNo) (worker : ℕ) (moment : Moment) (front : FrontState) (held : Option Worker) → front_at node w.fronts ≡ Some
      front → slice_get front.workers worker ≡ held → with_charge w node (after_charge_by front w.book moment worker held) ≡ Some after
      → IsWired site made w → QueuesHoldRequests w.fronts → IsLegal w.book.terms w.book.history
      → ((conn : ConnId) (message : Message) (refusal : Refusal) → slice_get front.workers worker ≡ Some (Picked conn message) → ChargeCause front.site w.book
      message refusal → HasReason (record { node = node; conn = conn; request = message; refusal = refusal }))
      → Goes-on w after
  charge_by w after node worker moment front None looked e is wired requests legal reason = absurd cc
  charge_by w after node worker moment front (Some Idle) looked e is wired requests legal reason = absurd cc
  charge_by w after node worker moment front (Some (Done conn answer)) looked e is wired requests legal reason = absurd cc
  charge_by w after node worker moment front (Some (Picked conn message)) looked e is wired requests legal reason =
      subst (Goes-on w) (same_Some _ _ is) (charged w node worker moment front conn message looked e wired requests legal
      (λ refusal. reason conn message refusal e))

  pub charge_at_goes : (w after : WorldState) (node : NodeNo) (worker : ℕ) (moment : Moment) (found : Option FrontState) → front_at node w.fronts ≡ found →
      after_charge_at w node worker moment found ≡ Some after → IsWired site made w → QueuesHoldRequests w.fronts
      → IsLegal w.book.terms w.book.history
      → ((front : FrontState) (conn : ConnId) (message : Message) (refusal : Refusal) → front_at node w.fronts ≡ Some front → slice_get front.workers worker ≡
      Some (Picked conn message) → ChargeCause front.site w.book message refusal
      → HasReason (record { node = node; conn = conn; request = message; refusal = refusal }))
      → Goes-on w after
  charge_at_goes w after node worker moment None looked is wired requests legal reason = absurd cc
  charge_at_goes w after node worker moment (Some front) looked is wired requests legal reason =
      charge_by w after node worker moment front (slice_get front.workers worker) looked refl is wired requests legal
      (λ conn message refusal. reason front conn message refusal looked)

pub charge_goes : Premises → (site : Site) (made : Ends) (t : Transition) (refused : List Refused) (node : NodeNo) (worker : ℕ) (moment : Moment) → t.step ≡
    Charge node worker moment
    → Outcome (after_charge_at t.before node worker moment (front_at node t.before.fronts)) t.applied t.before t.after → IsLegal t.before.book.terms
    t.before.book.history → IsWired site made t.before → QueuesHoldRequests t.before.fronts
    → StepGoes site made t refused
charge_goes premises site made t refused node worker moment step o legal wired requests =
    outcome_goes site made t refused (after_charge_at t.before node worker moment (front_at node t.before.fronts)) o wired requests
    (λ after is. charge_at_goes premises site made refused (Reason t) t.before after node worker moment (front_at node t.before.fronts) refl is wired requests
    legal
    (λ front conn message refusal looked picked cause. at_charge worker moment front refusal step looked (record { held = picked }) cause))
