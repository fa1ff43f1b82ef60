-- From one receipt to the next.
use Rattle.std.proofs.Common.{◌≡◌, ℕ, ◌+◌, ◌<◌, ◌≤◌, arith, Bool, true, false, cond, List, [], ◌∷◌, ◌++◌, length, Some, refl, sym, subst, ap, ◌∙◌}
use Rattle.std.specs.Prelude.{slice_get}
use Rattle.std.proofs.lemmas.List.{take_all}
use Rattle.dia_base.specs.declared.number.ConnId.{ConnId}
use Rattle.dia_base.specs.declared.number.Moment.{Moment}
use Rattle.dia_base.specs.declared.number.NodeNo.{NodeNo}
use Rattle.dia_message.specs.declared.message.Message.{Message}
use Rattle.dia_message.specs.Traffic.{Traffic}
use Rattle.cc_book.specs.declared.entry.Entry.{Entry}
use Rattle.cc_book.specs.declared.entry.Entry.TheVariants.{Take}
use Rattle.cc_book.specs.History.{IsLegal}
use Rattle.cc_book.specs.Taking.{Ledger, after_sweep}
use Rattle.cc_shared.specs.declared.receipt.Receipt.{Receipt}
use Rattle.front_core.specs.ChangingTerms.{after_change}
use Rattle.front_core.specs.declared.worker.Job.{Job}
use Rattle.front_core.specs.declared.worker.Worker.TheVariants.{Idle}
use Rattle.front_core.specs.ChargeCases.{IsCharge}
use Rattle.front_core.specs.FrontState.{FrontState, is_among}
use Rattle.front_pool.specs.declared.job.Finished.{Finished}
use Rattle.front_pool.specs.Charging.{answer_with, as_of}
use Rattle.front_pool.proofs.Charges.{fresh_is_charged, repeat_is_charged}
use Rattle.farm_base.specs.declared.site.Site.{Site}
use Rattle.farm_base.specs.declared.step.Step.{Step}
use Rattle.farm_base.specs.declared.step.Step.TheVariants.{Pick, Charge, Emit, Sweep, ChangeTerms}
use Rattle.farm_model.specs.declared.state.Direction.{Direction}
use Rattle.farm_model.specs.World.{WorldState, front_at, with_message_from, with_traffic_from}
use Rattle.pool_law.specs.PoolRun.{AreInOrder, BookEvent, HasReceipt, Leads, queue_of, sent_of, steps_of, takes, repeats, sweeps, changes}
use Rattle.pool_law.proofs.Prefixes.{change_goes, fits_before, legal_before, sweep_goes}
use Rattle.pool_law.proofs.Turns.{after_charge, after_emit, after_pick, charge_goes, emit_goes, looked_after, others_after, pick_goes, sent}

more_traffic : (node : NodeNo) (directions : List Direction) (one two : Traffic) →
    with_traffic_from node directions (one ++ two) ≡ with_traffic_from node (with_traffic_from node directions one) two
more_traffic node directions [] two = refl
more_traffic node directions (item ∷ one) two = more_traffic node (with_message_from node directions item.0 item.1) one two

first_sent : (b : Bool) (item : ConnId × Message) (more : Traffic) → cond b (item ∷ []) [] ++ more ≡ cond b (item ∷ more) more
first_sent true item more = refl
first_sent false item more = refl

module _ (site : Site) (node : NodeNo) (worker : ℕ) (front : FrontState) (idle : slice_get front.workers worker ≡ Some Idle) (book : Ledger)
    (legal : IsLegal book.terms book.history) (within : length book.history ≤ book.limit) where
  abbrev Led : List Step → Traffic → WorldState → Type 0
  Led steps traffic w = Leads site node front book steps traffic w

  -- a request more is charged first
  turn : (jobs : List Job) (conn : ConnId) (message answer : Message) (w : WorldState) (left : Ledger) (moment : Moment) (steps : List Step) (traffic : Traffic)
      → front_at node w.fronts ≡ Some (record front { queue = record { conn = conn; request = message } ∷ jobs })
      → IsCharge front.site w.book moment message answer left
      → Led steps traffic (after_emit site node worker front idle jobs conn message answer w left)
      → Led (Pick node worker ∷ Charge node worker moment ∷ Emit node worker ∷ steps)
      (cond (is_among front.connections conn) ((conn, answer) ∷ traffic) traffic) w
  turn jobs conn message answer w left moment steps traffic looked charge rest =
      let one = after_pick site node worker front idle jobs conn message answer w left in
      let two = after_charge site node worker front idle jobs conn message answer w left in
      let three = after_emit site node worker front idle jobs conn message answer w left in
      let out = sent site node worker front idle jobs conn message answer in
      record {
        past = record { step = Pick node worker; before = w; applied = true; losses = []; after = one }
            ∷ record { step = Charge node worker moment; before = one; applied = true; losses = []; after = two }
            ∷ record { step = Emit node worker; before = two; applied = true; losses = []; after = three } ∷ rest.past;
        new = rest.new;
        run = (
          refl,
          pick_goes site node worker front idle jobs conn message answer w left looked,
          (
            refl,
            charge_goes site node worker front idle jobs conn message answer w left looked moment charge,
            (refl, emit_goes site node worker front idle jobs conn message answer w left looked, rest.run),
          ),
        );
        steps_are = ap (λ (s : List Step). Pick node worker ∷ Charge node worker moment ∷ Emit node worker ∷ s) rest.steps_are;
        all_apply = (refl, (refl, (refl, rest.all_apply)));
        book_is = rest.book_is;
        front_is = rest.front_is;
        flight_is = rest.flight_is ∙ sym (more_traffic node w.directions out traffic)
            ∙ ap (λ (t : Traffic). with_traffic_from node w.directions t) (first_sent (is_among front.connections conn) (conn, answer) traffic);
        others = λ other apart. rest.others other apart
            ∙ others_after site node worker front idle jobs conn message answer w left other apart;
        relays_are = rest.relays_are;
        sent_is = rest.sent_is;
        received_is = rest.received_is;
        ends_are = rest.ends_are;
      }

  -- the moment of a charge is that of its entry
  same_moment : (place : ℕ) (request : _) (one two : Moment) → slice_get book.history place ≡ Some (Take one request) →
      slice_get book.history place ≡ Some (Take two request) → one ≡ two
  same_moment place request one two a b =
      let same : Some (Take one request) ≡ Some (Take two request) = sym a ∙ b in
      cc

  taken : (w : WorldState) (place : ℕ) (finished : Finished) (receipt : Receipt) (moment : Moment) → w.book ≡ as_of book place →
      HasReceipt front.site book finished receipt → receipt.fresh ≡ true → receipt.place ≡ place
      → slice_get book.history place ≡ Some (Take moment receipt.request)
      → IsCharge front.site w.book moment finished.request (answer_with front.site finished.request receipt) (as_of book (place + 1))
  taken w place finished receipt moment is has fresh here entry =
      let charged = fresh_is_charged front.site has.shared book finished.request finished.answer finished.receipt receipt legal within has.answered has.receipt_is
      has.fits fresh in
      let P : ℕ → Type 0 = λ p. slice_get book.history p ≡ Some (Take charged.moment receipt.request) in
      let moments : charged.moment ≡ moment = same_moment place receipt.request charged.moment moment (subst P here charged.at) entry in
      let answer = answer_with front.site finished.request receipt in
      let Q : Moment → Type 0 = λ m. IsCharge front.site (as_of book receipt.place) m finished.request answer (as_of book (receipt.place + 1)) in
      let at_moment : Q moment = subst Q moments charged.charge in
      let at_place : IsCharge front.site (as_of book place) moment finished.request answer (as_of book (place + 1)) =
      subst (λ (p : ℕ). IsCharge front.site (as_of book p) moment finished.request answer (as_of book (p + 1))) here at_moment in
      subst (λ (b : Ledger). IsCharge front.site b moment finished.request answer (as_of book (place + 1))) (sym is) at_place

  repeated : (w : WorldState) (place : ℕ) (finished : Finished) (receipt : Receipt) (moment : Moment) → w.book ≡ as_of book place →
      HasReceipt front.site book finished receipt → receipt.place < place
      → IsCharge front.site w.book moment finished.request (answer_with front.site finished.request receipt) (as_of book place)
  repeated w place finished receipt moment is has less =
      let answer = answer_with front.site finished.request receipt in
      let charge : IsCharge front.site (as_of book place) moment finished.request answer (as_of book place) =
      repeat_is_charged front.site has.shared (as_of book place) moment finished.request finished.answer finished.receipt receipt
      (legal_before book.terms book.history place legal) has.answered has.receipt_is (fits_before book.terms book.history receipt place less has.fits) in
      subst (λ (b : Ledger). IsCharge front.site b moment finished.request answer (as_of book place)) (sym is) charge

  pub leads : (events : List BookEvent) (place : ℕ) (w : WorldState) → AreInOrder front.site book place events → w.book ≡ as_of book place
      → front_at node w.fronts ≡ Some (record front { queue = queue_of events }) → Led (steps_of node worker events) (sent_of front events) w
  leads [] place w order is looked = record {
    past = [];
    new = w;
    run = refl;
    steps_are = refl;
    all_apply = tt;
    book_is = is ∙ ap (λ (h : List Entry). record book { history = h }) (take_all place book.history (omega (arith, order)));
    front_is = looked;
    flight_is = refl;
    others = λ other apart. refl;
    relays_are = refl;
    sent_is = refl;
    received_is = refl;
    ends_are = refl;
  }
  leads (takes finished receipt moment ∷ more) place w order is looked =
      let answer = answer_with front.site finished.request receipt in
      let left = as_of book (place + 1) in
      turn (queue_of more) finished.conn finished.request answer w left moment (steps_of node worker more) (sent_of front more) looked
      (taken w place finished receipt moment is order.0 order.1 order.2 order.3)
      (leads more (place + 1) (after_emit site node worker front idle (queue_of more) finished.conn finished.request answer w left) order.4 refl
      (looked_after site node worker front idle (queue_of more) finished.conn finished.request answer w left looked))
  leads (repeats finished receipt moment ∷ more) place w order is looked =
      let answer = answer_with front.site finished.request receipt in
      let left = as_of book place in
      turn (queue_of more) finished.conn finished.request answer w left moment (steps_of node worker more) (sent_of front more) looked
      (repeated w place finished receipt moment is order.0 order.2)
      (leads more place (after_emit site node worker front idle (queue_of more) finished.conn finished.request answer w left) order.3 refl
      (looked_after site node worker front idle (queue_of more) finished.conn finished.request answer w left looked))
  leads (sweeps moment ∷ more) place w order is looked =
      let left = as_of book (place + 1) in
      let next : WorldState = record w { book = left } in
      let rest = leads more (place + 1) next order.1 refl looked in
      let swept : left ≡ after_sweep w.book moment =
      sym (sweep_goes book place moment legal within order.0) ∙ ap (λ (b : Ledger). after_sweep b moment) (sym is) in
      record {
        past = record { step = Sweep moment; before = w; applied = true; losses = []; after = next } ∷ rest.past;
        new = rest.new;
        run = (refl, ((refl, ap (λ (b : Ledger). record w { book = b }) swept), refl), rest.run);
        steps_are = ap (λ (s : List Step). Sweep moment ∷ s) rest.steps_are;
        all_apply = (refl, rest.all_apply);
        book_is = rest.book_is;
        front_is = rest.front_is;
        flight_is = rest.flight_is;
        others = rest.others;
        relays_are = rest.relays_are;
        sent_is = rest.sent_is;
        received_is = rest.received_is;
        ends_are = rest.ends_are;
      }
  leads (changes moment change ∷ more) place w order is looked =
      let left = as_of book (place + 1) in
      let next : WorldState = record w { book = left } in
      let rest = leads more (place + 1) next order.1 refl looked in
      let changed : left ≡ after_change w.book moment change =
      sym (change_goes book place moment change legal within order.0) ∙ ap (λ (b : Ledger). after_change b moment change) (sym is) in
      record {
        past = record { step = ChangeTerms moment change; before = w; applied = true; losses = []; after = next } ∷ rest.past;
        new = rest.new;
        run = (refl, ((refl, ap (λ (b : Ledger). record w { book = b }) changed), refl), rest.run);
        steps_are = ap (λ (s : List Step). ChangeTerms moment change ∷ s) rest.steps_are;
        all_apply = (refl, rest.all_apply);
        book_is = rest.book_is;
        front_is = rest.front_is;
        flight_is = rest.flight_is;
        others = rest.others;
        relays_are = rest.relays_are;
        sent_is = rest.sent_is;
        received_is = rest.received_is;
        ends_are = rest.ends_are;
      }
