-- What clients have sent and received stands on connections of one client, and the book is the site's, with sweeps and changes of steps of
-- the run.
use Rattle.std.proofs.Common.{◌≡◌, ℕ, zero, suc, Bool, true, false, cond, List, [], ◌∷◌, ◌++◌, Option, Some, None, Result, Ok, Err, ◌⊎◌, inl, inr}
use Rattle.std.proofs.Common.{refl, sym, subst, ap, ◌∙◌}
use Rattle.std.specs.Prelude.{MatchBool, slice_get, unwrap_or}
use Rattle.std.proofs.lemmas.Option.{same_Some}
use Rattle.std.specs.List.{find}
use Rattle.dia_base.specs.declared.number.ConnId.{ConnId}
use Rattle.dia_base.specs.declared.number.Moment.{Moment}
use Rattle.dia_base.specs.declared.number.NodeNo.{NodeNo}
use Rattle.dia_base.proofs.Finding.{found_passes}
use Rattle.dia_message.specs.declared.message.Message.{Message}
use Rattle.dia_message.specs.Traffic.{Traffic}
use Rattle.cc_view.specs.declared.request.CcRequest.{CcRequest}
use Rattle.cc_book.specs.declared.book.BookRefusal.{BookRefusal}
use Rattle.cc_book.specs.declared.entry.Entry.{Entry}
use Rattle.cc_book.specs.declared.entry.Entry.TheVariants.{Take, Sweep, ChangeTerms}
use Rattle.cc_book.specs.declared.terms_change.ChangeRefusal.{ChangeRefusal}
use Rattle.cc_book.specs.declared.terms_change.TermsChange.{TermsChange}
use Rattle.cc_book.specs.Changing.{after_change_with, change_answer}
use Rattle.cc_book.specs.Taking.{Ledger, answer_of, is_fresh, with_take, sweep_answer, after_sweep_with}
use Rattle.front_core.specs.declared.preparing.Prepared.{Prepared}
use Rattle.front_core.specs.declared.preparing.Prepared.TheVariants.{Refused, Ask}
use Rattle.front_core.specs.declared.worker.Worker.{Worker}
use Rattle.front_core.specs.declared.worker.Worker.TheVariants.{Idle, Picked, Done}
use Rattle.front_core.specs.Charging.{book_after}
use Rattle.front_core.specs.FrontState.{FrontState}
use Rattle.front_core.specs.FrontStep.{after_charge_by, after_emit, after_pick, after_refusal, preparation_at}
use Rattle.relay_core.specs.declared.run.RelayEvent.{RelayEvent}
use Rattle.relay_core.specs.declared.run.RelayEvent.TheVariants.{Lost}
use Rattle.relay_core.specs.RelayState.{RelayState}
use Rattle.farm_law.specs.Lists.{Has}
use Rattle.farm_law.proofs.Lists.{all-end}
use Rattle.farm_base.specs.declared.site.Site.{Site}
use Rattle.farm_model.specs.declared.state.Direction.{Direction}
use Rattle.farm_base.specs.declared.step.Step.{Step}
use Rattle.farm_base.specs.declared.step.Step.TheVariants.{Charge as ChargeStep, Sweep as SweepStep, ChangeTerms as ChangeStep}
use Rattle.farm_model.specs.Arrival.{AtRelay}
use Rattle.farm_model.specs.SoundSite.{IsSound}
use Rattle.farm_model.specs.FarmStep.{Outcome, Flight, after_lost_message, after_up, with_new_connection, can_connect, after_send, after_send_on}
use Rattle.farm_model.specs.FarmStep.{after_accept, after_opened_on, after_opened, opened_if, can_restart, after_crash_at}
use Rattle.farm_model.specs.FarmStep.{with_pick, after_pick_at, after_refusal_at, with_emit, after_emit_at, with_charge, after_charge_at}
use Rattle.farm_model.specs.FarmStep.{after_sweep_at, after_change_at}
use Rattle.farm_model.specs.Loss.{Loss, LearnsLoss, LossAt, LearnLosses, all_know, learns, after_end as without_its_end, EndGoes, end_with, after_losing_all}
use Rattle.farm_model.specs.Loss.{CutsBoth, after_crash, DropAll, all_dropped, drops_too}
use Rattle.farm_base.specs.Nodes.{is_client}
use Rattle.farm_model.specs.Promise.{HasOneClient}
use Rattle.farm_model.specs.Run.{empty_book, TellsSame}
use Rattle.farm_model.specs.World.{Ends, WorldState, is_heard, is_unheard, conn_known, front_at, relay_at}
use Rattle.farm_model.proofs.Lists.Among.{Has-cons, Has-parts}
use Rattle.farm_model.proofs.Lists.Finding.{Has-found}
use Rattle.farm_model.proofs.Wiring.Joined.{Joins-turned, one_client}
use Rattle.farm_model.proofs.Wiring.Linked.{client_beside}
use Rattle.farm_model.proofs.Wiring.Wired.{IsWired}
use Rattle.farm_model.proofs.Wiring.WorldLemmas.{direction_nodes, heard_between, direction_known}

-- a step charges at the moment
abbrev pub IsChargedIn : List Step → Moment → Type 0
IsChargedIn steps moment = (front : NodeNo) × (worker : ℕ) × Has (ChargeStep front worker moment) steps

pub record Heard (site : Site) (all : Ends) (steps : List Step) (sent received : Traffic) (book : Ledger) : Type 0 where
  pub senders : (item : ConnId × Message) → Has item sent → HasOneClient site all item.0
  pub receivers : (item : ConnId × Message) → Has item received → HasOneClient site all item.0
  pub terms : book.terms ≡ (empty_book site).terms
  pub limit : book.limit ≡ site.limit
  pub sweeps : (moment : Moment) → Has (Sweep moment) book.history → Has (SweepStep moment) steps
  pub changes : (moment : Moment) (change : TermsChange) → Has (ChangeTerms moment change) book.history → Has (ChangeStep moment change) steps
  pub takes : (moment : Moment) (request : CcRequest) → Has (Take moment request) book.history → IsChargedIn steps moment

abbrev pub HeardIn : Site → Ends → List Step → WorldState → Type 0
HeardIn site all steps w = Heard site all steps w.sent w.received w.book

-- the run goes on
pub heard_on : {site : Site} {all : Ends} {steps more : List Step} (w : WorldState) → ((step : Step) → Has step steps → Has step more) → HeardIn site all steps
    w → HeardIn site all more w
heard_on w on h = record {
  senders = h.senders;
  receivers = h.receivers;
  terms = h.terms;
  limit = h.limit;
  sweeps = λ moment among. on (SweepStep moment)
      (h.sweeps moment among);
  changes = λ moment change among. on (ChangeStep moment change) (h.changes moment change among);
  takes = λ moment request among. let c = h.takes moment request among in (c.0, c.1, on (ChargeStep c.0 c.1 moment) c.2);
}

same_moment : (one other : Moment) → Sweep one ≡ Sweep other → one ≡ other
same_moment one other e = cc

same_change : (one other : Moment) (x y : TermsChange) → ChangeTerms one x ≡ ChangeTerms other y → ChangeStep other y ≡ ChangeStep one x
same_change one other x y e = cc

taken_moment : (one other : Moment) (x y : CcRequest) → Take one x ≡ Take other y → one ≡ other
taken_moment one other x y e = cc

-- ---- what is told stays

pub tells_heard : {site : Site} {all : Ends} {steps : List Step} (old new : WorldState) → TellsSame old new → HeardIn site all steps old → HeardIn site all
    steps new
tells_heard {site} {all} {steps} old new same h =
    let one = subst (λ (s : Traffic). Heard site all steps s old.received old.book) (sym same.0) h in
    let two = subst (λ (s : Traffic). Heard site all steps new.sent s old.book) (sym same.1) one in
    subst (λ (b : Ledger). Heard site all steps new.sent new.received b) (sym same.2) two

pub at_relay_tells : (w : WorldState) (node : NodeNo) (event : RelayEvent) (relay : Option RelayState) (next : WorldState) → AtRelay w node event relay next →
    TellsSame w next
at_relay_tells w node event None next same = (
  ap (λ (v : WorldState). v.sent) same,
  ap (λ (v : WorldState). v.received) same,
  ap (λ (v : WorldState). v.book)
      same,
  ap (λ (v : WorldState). v.ends) same,
)
at_relay_tells w node event (Some relay) next turn =
    let same = turn.next_is in (
      ap (λ (v : WorldState). v.sent) same,
      ap (λ (v : WorldState). v.received) same,
      ap (λ (v : WorldState). v.book) same,
      ap
          (λ (v : WorldState). v.ends) same,
    )

one_loss_tells : (w : WorldState) (loss : Loss) (front : Option FrontState) (next : WorldState) → LearnsLoss w loss front next → TellsSame w next
one_loss_tells w loss (Some front) next same = (
  ap (λ (v : WorldState). v.sent) same,
  ap (λ (v : WorldState). v.received) same,
  ap (λ (v : WorldState). v.book)
      same,
  ap (λ (v : WorldState). v.ends) same,
)
one_loss_tells w loss None next turn = at_relay_tells w loss.node (Lost loss.conn) (relay_at loss.node w.relays) next turn

pub losses_tell : {losses : List Loss} {w last : WorldState} {later : List LossAt} → LearnLosses losses w later last → TellsSame w last
losses_tell all_know = (refl, refl, refl, refl)
losses_tell (learns {loss = loss} {w = w} {next = mid} one more) =
    let a = one_loss_tells w loss (front_at loss.node w.fronts) mid one in
    let b = losses_tell more in
    (b.0 ∙ a.0, b.1 ∙ a.1, b.2 ∙ a.2, b.3 ∙ a.3)

pub end_tells : (w after : WorldState) (node : NodeNo) (found : Option Direction) (losses : List LossAt) → EndGoes w node found losses after → TellsSame w after
end_tells w after node None losses goes = subst (TellsSame w) (sym goes.1) (refl, refl, refl, refl)
end_tells w after node (Some direction) losses goes = go direction.known goes
  where
    go : (b : Bool) → MatchBool b (LearnLosses (record { node = node; conn = direction.conn } ∷ []) (without_its_end w node direction.conn) losses after)
        ((losses ≡ []) × (after ≡ without_its_end w node direction.conn)) → TellsSame w after
    go true learn = let a = losses_tell learn in (a.0, a.1, a.2, a.3)
    go false idle = subst (TellsSame w) (sym idle.1) (refl, refl, refl, refl)

pub cut_tells : (w after : WorldState) (a b : NodeNo) (losses : List LossAt) → CutsBoth w a b losses after → TellsSame w after
cut_tells w after a b losses cut =
    let one = end_tells (after_losing_all w a b) cut.middle a (end_with (after_losing_all w a b).directions a b) cut.first cut.one in
    let other = end_tells cut.middle after b (end_with cut.middle.directions b a) cut.second cut.other in
    (other.0 ∙ one.0, other.1 ∙ one.1, other.2 ∙ one.2, other.3 ∙ one.3)

pub all_drop_tell : {node : NodeNo} {peers : List NodeNo} {w after : WorldState} {losses : List LossAt} → DropAll node peers w losses after → TellsSame w after
all_drop_tell all_dropped = (refl, refl, refl, refl)
all_drop_tell {node = node} (drops_too {peer = peer} {w = w} {next = mid} now later is one more) =
    let a = end_tells w mid peer (end_with w.directions peer node) now one in
    let b = all_drop_tell more in
    (b.0 ∙ a.0, b.1 ∙ a.1, b.2 ∙ a.2, b.3 ∙ a.3)

-- ---- each step

module _ (site : Site) (all : Ends) (steps : List Step) (checked : IsSound site) (old new : WorldState) (applied : Bool) (wired : IsWired site all old)
    (heard : HeardIn site all steps old) where
  same_state : (next : WorldState) → next ≡ old → HeardIn site all steps next
  same_state next e = subst (HeardIn site all steps) (sym e) heard

  outcome_heard : (found : Option WorldState) → ((next : WorldState) → found ≡ Some next → HeardIn site all steps next) → Outcome found applied old new →
      HeardIn site all steps new
  outcome_heard None f out = same_state new out.1
  outcome_heard (Some next) f out = subst (HeardIn site all steps) (sym out.1) (f next refl)

  -- what is told is the same
  same_told : (next : WorldState) → next.sent ≡ old.sent → next.received ≡ old.received → next.book ≡ old.book → HeardIn site all steps next
  same_told next sent received book = tells_heard (record old { ends = next.ends }) next (sent, received, book, refl) (record {
    senders = heard.senders;
    receivers = heard.receivers;
    terms = heard.terms;
    limit = heard.limit;
    sweeps = heard.sweeps;
    changes = heard.changes;
    takes = heard.takes;
  })

  accepted_heard : (at from : NodeNo) (next : WorldState) (b : Bool) → cond b (Some (with_new_connection old from at)) None ≡ Some next → HeardIn site all steps
      next
  accepted_heard at from next true e = subst (HeardIn site all steps) (same_Some _ _ e) (same_told (with_new_connection old from at) refl refl refl)
  accepted_heard at from next false e = absurd cc

  pub accept_heard : (at from : NodeNo) → Outcome (after_accept site old at from) applied old new → HeardIn site all steps new
  accept_heard at from out = outcome_heard (after_accept site old at from) (λ next e. accepted_heard at from next (can_connect site old from at) e) out

  -- of a farm in which the same is told
  on_heard : (w next : WorldState) (a b : NodeNo) (found : Option Direction) → w.sent ≡ old.sent → w.received ≡ old.received → w.book ≡ old.book →
      after_opened_on w a b found ≡ Some next → HeardIn site all steps next
  on_heard w next a b None sent received book e = absurd cc
  on_heard w next a b (Some direction) sent received book e = same_told next
      (sym (ap (λ (o : Option WorldState). (unwrap_or o w).sent) e) ∙ sent) (sym (ap (λ (o : Option WorldState). (unwrap_or o w).received) e) ∙ received)
      (sym (ap (λ (o : Option WorldState). (unwrap_or o w).book) e) ∙ book)

  pub opened_heard : (a b : NodeNo) → Outcome (after_opened old a b) applied old new → HeardIn site all steps new
  opened_heard a b out = outcome_heard (after_opened old a b) (λ next e. on_heard old next a b (find (is_unheard b a) old.directions) refl refl refl e) out

  pub up_heard : (a b : NodeNo) → Outcome (after_up site old a b) applied old new → HeardIn site all steps new
  up_heard a b out = outcome_heard (after_up site old a b) (λ next e. go next (can_connect site old a b) e) out
    where
      go : (next : WorldState) (c : Bool) → opened_if a b (cond c (Some (with_new_connection old a b)) None) ≡ Some next → HeardIn site all steps next
      go next true e = on_heard (with_new_connection old a b) next a b (find (is_unheard b a) (with_new_connection old a b).directions) refl refl refl e
      go next false e = absurd cc

  pub crash_heard : (node : NodeNo) → Outcome (after_crash_at site old node) applied old new → HeardIn site all steps new
  crash_heard node out = outcome_heard (after_crash_at site old node) (λ next e. go next (can_restart site node) e) out
    where
      go : (next : WorldState) (c : Bool) → cond c (Some (after_crash old node)) None ≡ Some next → HeardIn site all steps next
      go next true e = subst (HeardIn site all steps) (same_Some _ _ e) (same_told (after_crash old node) refl refl refl)
      go next false e = absurd cc

  pub send_heard : (client to : NodeNo) (message : Message) → Outcome (after_send site old client to message) applied old new → HeardIn site all steps new
  send_heard client to message out = outcome_heard (after_send site old client to message) (λ next e. go next (is_client site client) refl e) out
    where
      sent_on : (direction : Direction) → is_client site client ≡ true → find (is_heard to client) old.directions ≡ Some direction → HasOneClient site all
          direction.conn
      sent_on direction is e =
          let k = wired.directions direction (Has-found (is_heard to client) old.directions e) in
          let nodes = direction_nodes to client direction (heard_between to client direction (found_passes (is_heard to client) old.directions direction e)) in
          let to_client : is_client site direction.to ≡ true = subst (λ (n : NodeNo). is_client site n ≡ true) (sym nodes.1) is in
          one_client (Joins-turned k.joins) to_client (client_beside site checked direction.from direction.to k.linked to_client)

      found : (next : WorldState) → is_client site client ≡ true → (conn : Option ConnId) → conn_known old.directions client to ≡ conn → after_send_on old
          client message conn ≡ Some next → HeardIn site all steps next
      found next is None q e = absurd cc
      found next is (Some conn) q e =
          let direction = direction_known old.directions client to conn q in
          let same = ap (λ (o : Option WorldState). unwrap_or o next) e in
          subst (HeardIn site all steps) same (record {
            senders = all-end (λ (i : ConnId × Message). HasOneClient site all i.0) old.sent (conn, message) heard.senders
                (subst (λ (c : ConnId). HasOneClient site all c) direction.2 (sent_on direction.0 is direction.1));
            receivers = heard.receivers;
            terms = heard.terms;
            limit = heard.limit;
            sweeps = heard.sweeps;
            changes = heard.changes;
            takes = heard.takes;
          })

      go : (next : WorldState) (b : Bool) → is_client site client ≡ b → cond b
          (after_send_on old client message (conn_known old.directions client to)) None ≡ Some next → HeardIn site all steps next
      go next true is e = found next is (conn_known old.directions client to) refl e
      go next false is e = absurd cc

  pub lose_heard : (flight : Option Flight) → Outcome (after_lost_message old flight) applied old new → HeardIn site all steps new
  lose_heard None out = same_state new out.1
  lose_heard (Some flight) out = subst (HeardIn site all steps) (sym out.1)
      (record { senders = heard.senders; receivers = heard.receivers; terms = heard.terms; limit = heard.limit; sweeps = heard.sweeps; changes = heard.changes; takes = heard.takes })

  pick_heard : (node : NodeNo) (front : Option FrontState) → Outcome (with_pick old node front) applied old new → HeardIn site all steps new
  pick_heard node None out = same_state new out.1
  pick_heard node (Some front) out = subst (HeardIn site all steps) (sym out.1)
      (record { senders = heard.senders; receivers = heard.receivers; terms = heard.terms; limit = heard.limit; sweeps = heard.sweeps; changes = heard.changes; takes = heard.takes })

  pub pick_at_heard : (node : NodeNo) (worker : ℕ) (front : Option FrontState) → Outcome (after_pick_at old node worker front) applied old new → HeardIn site
      all steps new
  pick_at_heard node worker None out = same_state new out.1
  pick_at_heard node worker (Some front) out = pick_heard node (after_pick front worker) out

  pub refusal_at_heard : (node : NodeNo) (worker : ℕ) (front : Option FrontState) → Outcome (after_refusal_at old node worker front) applied old new → HeardIn
      site all steps new
  refusal_at_heard node worker None out = same_state new out.1
  refusal_at_heard node worker (Some front) out = pick_heard node (after_refusal front worker) out

  emit_heard : (node : NodeNo) (turn : Option (FrontState × Traffic)) → Outcome (with_emit old node turn) applied old new → HeardIn site all steps new
  emit_heard node None out = same_state new out.1
  emit_heard node (Some turn) out = subst (HeardIn site all steps) (sym out.1)
      (record { senders = heard.senders; receivers = heard.receivers; terms = heard.terms; limit = heard.limit; sweeps = heard.sweeps; changes = heard.changes; takes = heard.takes })

  pub emit_at_heard : (node : NodeNo) (worker : ℕ) (front : Option FrontState) → Outcome (after_emit_at old node worker front) applied old new → HeardIn site
      all steps new
  emit_at_heard node worker None out = same_state new out.1
  emit_at_heard node worker (Some front) out = emit_heard node (after_emit front worker) out

  -- the book keeps its terms and its limit, and gets no sweep and no change of the terms
  abbrev SameButTakes : Ledger → Ledger → Type 0
  SameButTakes book next = (next.terms ≡ book.terms) × (next.limit ≡ book.limit) × ((at : Moment) → Has (Sweep at) next.history → Has (Sweep at) book.history)
      × ((at : Moment) (change : TermsChange) → Has (ChangeTerms at change) next.history → Has (ChangeTerms at change) book.history)

  no_sweep : (history : List Entry) (moment at : Moment) (request : CcRequest) → Has (Sweep at) (history ++ Take moment request ∷ []) → Has (Sweep at) history
  no_sweep history moment at request among = elim (Has-parts history among) [
    | inl old ↦ old
    | inr new ↦ absurd (elim (Has-cons new) [ inl is ↦ (let clash : Sweep at ≡ Take moment request = is in cc) | inr none ↦ elim none [ ] ])
  ]

  no_change : (history : List Entry) (moment at : Moment) (change : TermsChange) (request : CcRequest) →
      Has (ChangeTerms at change) (history ++ Take moment request ∷ []) → Has (ChangeTerms at change) history
  no_change history moment at change request among = elim (Has-parts history among) [
    | inl old ↦ old
    | inr new ↦ absurd (elim (Has-cons new) [ inl is ↦ (let clash : ChangeTerms at change ≡ Take moment request = is in cc) | inr none ↦ elim none [ ] ])
  ]

  same_book : (book : Ledger) (moment : Moment) (prepared : Prepared) → SameButTakes book (book_after book moment prepared)
  same_book book moment (Refused refusal) = (refl, refl, λ at among. among, λ at change among. among)
  same_book book moment (Ask request) = go (is_fresh (answer_of book request))
    where
      go : (b : Bool) → SameButTakes book (cond b (with_take book moment request) book)
      go true = (refl, refl, λ at among. no_sweep book.history moment at request among, λ at change among. no_change book.history moment at change request among)
      go false = (refl, refl, λ at among. among, λ at change among. among)

  -- what it takes more is taken at the moment
  new_take : (history : List Entry) (moment at : Moment) (request other : CcRequest) → Has (Take at other) (history ++ Take moment request ∷ []) → Has
      (Take at other) history ⊎ (at ≡ moment)
  new_take history moment at request other among = elim (Has-parts history among) [
    | inl old ↦ inl old
    | inr new ↦ elim (Has-cons new) [ inl is ↦ inr (taken_moment at moment other request is) | inr none ↦ elim none [ ] ]
  ]

  takes_of : (book : Ledger) (moment : Moment) (prepared : Prepared) (at : Moment) (other : CcRequest) → Has (Take at other)
      (book_after book moment prepared).history → Has (Take at other) book.history ⊎ (at ≡ moment)
  takes_of book moment (Refused refusal) at other among = inl among
  takes_of book moment (Ask request) at other among = go (is_fresh (answer_of book request)) among
    where
      go : (b : Bool) → Has (Take at other) (cond b (with_take book moment request) book).history → Has (Take at other) book.history ⊎ (at ≡ moment)
      go true more = new_take book.history moment at request other more
      go false more = inl more

  charge_heard : (node : NodeNo) (front : FrontState) (moment : Moment) (worker : ℕ) (held : Option Worker) → IsChargedIn steps moment → Outcome
      (with_charge old node (after_charge_by front old.book moment worker held)) applied old new → HeardIn site all steps new
  charge_heard node front moment worker None is_step out = same_state new out.1
  charge_heard node front moment worker (Some Idle) is_step out = same_state new out.1
  charge_heard node front moment worker (Some (Done conn answer)) is_step out = same_state new out.1
  charge_heard node front moment worker (Some (Picked conn message)) is_step out =
      let same = same_book old.book moment (preparation_at front.site message) in
      subst (HeardIn site all steps) (sym out.1) (record {
        senders = heard.senders;
        receivers = heard.receivers;
        terms = same.0 ∙ heard.terms;
        limit = same.1 ∙
            heard.limit;
        sweeps = λ at among. heard.sweeps at (same.2 at among);
        changes = λ at change among. heard.changes at change (same.3 at change among);
        takes = λ at other among. elim
            (takes_of old.book moment (preparation_at front.site message) at other among)
            [ inl before ↦ heard.takes at other before | inr is ↦ subst (IsChargedIn steps) (sym is) is_step ];
      })

  pub charge_at_heard : (node : NodeNo) (worker : ℕ) (moment : Moment) (front : Option FrontState) → IsChargedIn steps moment → Outcome
      (after_charge_at old node worker moment front) applied old new → HeardIn site all steps new
  charge_at_heard node worker moment None is_step out = same_state new out.1
  charge_at_heard node worker moment (Some front) is_step out = charge_heard node front moment worker (slice_get front.workers worker) is_step out

  -- a sweep is one of the run
  swept_heard : (moment : Moment) → Has (SweepStep moment) steps → (answer : Result ℕ BookRefusal) → Heard site all steps old.sent old.received
      (after_sweep_with old.book moment answer)
  swept_heard moment is_step (Ok zero) = heard
  swept_heard moment is_step (Err refusal) = heard
  swept_heard moment is_step (Ok (suc more)) = record {
    senders = heard.senders;
    receivers = heard.receivers;
    terms = heard.terms;
    limit = heard.limit;
    sweeps = λ at among. elim (Has-parts old.book.history among) [
      | inl before ↦ heard.sweeps at before
      | inr new ↦ elim (Has-cons new) [
        | inl is ↦ subst (λ (m : Moment). Has (SweepStep m) steps) (sym (same_moment at moment is)) is_step
        | inr none ↦ elim none [ ]
      ]
    ];
    changes = λ at change among. elim (Has-parts old.book.history among) [
      | inl before ↦ heard.changes at change before
      | inr new ↦ absurd (elim (Has-cons new) [ inl is ↦ (let clash : ChangeTerms at change ≡ Sweep moment = is in cc) | inr none ↦ elim none [ ] ])
    ];
    takes = λ at other among. elim (Has-parts old.book.history among) [
      | inl before ↦ heard.takes at other before
      | inr new ↦ absurd (elim (Has-cons new) [ inl is ↦ (let clash : Take at other ≡ Sweep moment = is in cc) | inr none ↦ elim none [ ] ])
    ];
  }

  pub sweep_heard : (moment : Moment) → Has (SweepStep moment) steps → Outcome (Some (after_sweep_at old moment)) applied old new → HeardIn site all steps new
  sweep_heard moment is_step out = subst (HeardIn site all steps) (sym out.1) (swept_heard moment is_step (sweep_answer old.book moment))

  -- a change of the terms is one of the run
  changed_heard : (moment : Moment) (change : TermsChange) → Has (ChangeStep moment change) steps → (answer : Result ℕ ChangeRefusal) →
      Heard site all steps old.sent old.received (after_change_with old.book moment change answer)
  changed_heard moment change is_step (Err refusal) = heard
  changed_heard moment change is_step (Ok place) = record {
    senders = heard.senders;
    receivers = heard.receivers;
    terms = heard.terms;
    limit = heard.limit;
    sweeps = λ at among. elim (Has-parts old.book.history among) [
      | inl before ↦ heard.sweeps at before
      | inr new ↦ absurd (elim (Has-cons new) [ inl is ↦ (let clash : Sweep at ≡ ChangeTerms moment change = is in cc) | inr none ↦ elim none [ ] ])
    ];
    changes = λ at other among. elim (Has-parts old.book.history among) [
      | inl before ↦ heard.changes at other before
      | inr new ↦ elim (Has-cons new) [
        | inl is ↦ subst (λ (s : Step). Has s steps) (same_change at moment other change is) is_step
        | inr none ↦ elim none [ ]
      ]
    ];
    takes = λ at other among. elim (Has-parts old.book.history among) [
      | inl before ↦ heard.takes at other before
      | inr new ↦ absurd (elim (Has-cons new) [ inl is ↦ (let clash : Take at other ≡ ChangeTerms moment change = is in cc) | inr none ↦ elim none [ ] ])
    ];
  }

  pub change_heard : (moment : Moment) (change : TermsChange) → Has (ChangeStep moment change) steps →
      Outcome (Some (after_change_at old moment change)) applied old new → HeardIn site all steps new
  change_heard moment change is_step out = subst (HeardIn site all steps) (sym out.1) (changed_heard moment change is_step (change_answer old.book change))
