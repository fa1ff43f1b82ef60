use Rattle.std.proofs.Common.{rules, ◌≡◌, ℕ, ◌<◌, List, [], ◌∷◌, ◌++◌, length, length-append, ap, subst, sym, ◌∙◌, arith, SFits, Vec, Global, All, ◌≤◌, ◌^◌}
use Rattle.std.specs.Int.{w128}
use Rattle.std.specs.Prelude.{ℤ}
use Rattle.std.proofs.lemmas.Int.{to_z-of_z}
use Rattle.cc_view.specs.declared.request.CcRequest.{CcRequest}
use Rattle.cc_book.specs.declared.charges.Charge.{Charge}
use Rattle.cc_book.specs.declared.entry.Entry.{Entry}
use Rattle.cc_book.specs.declared.entry.Entry.TheVariants.{Take}
use Rattle.cc_book.specs.declared.session.OpenSession.{OpenSession}
use Rattle.cc_book.specs.Charging.{charges_of}
use Rattle.cc_book.specs.Duplicate.{Key, key_of}
use Rattle.cc_book.specs.History.{IsNew}
use Rattle.cc_book.specs.Places.{HasPlaces, IsIndexed}
use Rattle.cc_book.specs.Planning.{IsTaking}
use Rattle.cc_book.specs.AccountMachine.{posting_of, postings_of, terms_of}
use Rattle.cc_book.specs.OpenSessions.{FitsIn, Sessions}
use Rattle.cc_book.specs.Standing.{after_change, after_debit, reserved_in}
use Rattle.cc_book.specs.Taking.{Ledger}
use Rattle.cc_book.proofs.Books.{IsBook-push, account-within, replies-long, same-book, small-book, taking-outcome}
use Rattle.cc_book.proofs.Charging.{charges-long, charges-push}
use Rattle.cc_book.proofs.Outcomes.{after_debit-length}
use Rattle.cc_book.proofs.Postings.{terms_of-take}
use Rattle.cc_book.proofs.Fitting.{Fits, change-fits}
use Rattle.cc_book.proofs.state.BookState.keep.Goals as goal

-- ---- there is room

pub push_reserved-requires : goal.push_reserved-requires
push_reserved-requires c =
    let taking = subst (λ (l : Ledger). IsTaking l c.args.taken) (sym c.self.view_is) c.requires in
    omega (arith, taking.room, c.self.invariant.1.for_entries, c.self.inside.history.ok.0)

pub push_reserved-requires-2 : goal.push_reserved-requires-2
push_reserved-requires-2 c =
    let taking = subst (λ (l : Ledger). IsTaking l c.args.taken) (sym c.self.view_is) c.requires in
    let long = replies-long c.self.invariant.0 in
    omega (arith, taking.room, c.self.invariant.1.for_replies, c.self.inside.replies.ok.0)

pub push_reserved-requires-3 : goal.push_reserved-requires-3
push_reserved-requires-3 c =
    let room = (subst (λ (l : Ledger). IsTaking l c.args.taken) (sym c.self.view_is) c.requires).room in
    let long = ap length c.self.invariant.7 ∙ charges-long c.self.inside.terms.begun c.self.inside.history.items in
    omega (arith, room, c.self.invariant.8, c.self.inside.charges.ok.0)

pub change-requires-clause-room : goal.change-requires-clause-room
change-requires-clause-room c =
    let taking = subst (λ (l : Ledger). IsTaking l c.args.taken) (sym c.self.view_is) c.requires in
    let same = ap (λ (s : Sessions). s.room) c.debit.ensures.sessions in
    omega (arith, taking.room, c.self.invariant.1.for_sessions)

-- ---- what is debited and changed is there

pub debit-requires-clause-within : goal.debit-requires-clause-within
debit-requires-clause-within c =
    let taking = subst (λ (l : Ledger). IsTaking l c.args.taken) (sym c.self.view_is) c.requires in
    account-within c.self.invariant.0 c.args.taken.moment c.args.taken.request c.args.taken.outcome (taking-outcome c.self.invariant.0 c.args.taken taking)

pub debit-requires-clause-least : goal.debit-requires-clause-least
debit-requires-clause-least c = (small-book c.self.invariant.0).least

pub debit-requires-clause-most : goal.debit-requires-clause-most
debit-requires-clause-most c = (small-book c.self.invariant.0).most

pub change-requires-clause-held : goal.change-requires-clause-held
change-requires-clause-held c = subst (λ (now : Sessions). (account : ℕ) → reserved_in account now.items ≤ 2 ^ 124) (sym c.debit.ensures.sessions)
    (small-book c.self.invariant.0).held

pub change-requires-clause-fits : goal.change-requires-clause-fits
change-requires-clause-fits c =
    let taking = subst (λ (l : Ledger). IsTaking l c.args.taken) (sym c.self.view_is) c.requires in
    let does = taking-outcome c.self.invariant.0 c.args.taken taking in
    let outcome = c.args.taken.outcome in
    let now = c.self.inside.standing.sessions in
    let book = IsBook-push c.self.inside.terms.begun c.self.inside.limit c.self.inside.history.items c.self.inside.replies.items
    c.self.inside.standing.balances.items now.items c.args.taken.moment c.args.taken.request outcome c.self.invariant.0 taking.new taking.room taking.borne does in
    let posting = posting_of (terms_of c.self.inside.terms.begun c.self.inside.history.items) (postings_of c.self.inside.terms.begun c.self.inside.history.items)
    (Take c.args.taken.moment c.args.taken.request) in
    let fits : Fits now c.args.taken.request c.args.taken.moment posting c.self.invariant.0.stands.own_ids outcome.change =
    subst (Fits now c.args.taken.request c.args.taken.moment posting c.self.invariant.0.stands.own_ids) (sym does.change)
    (change-fits now c.args.taken.request c.args.taken.moment posting c.self.invariant.0.stands.own_ids) in
    let known = subst (λ (n : ℕ). All (λ (s : OpenSession). s.account < n) (after_change now.items outcome.change))
    (sym book.stands.accounts ∙ after_debit-length c.self.inside.standing.balances.items outcome.account outcome.debit ∙ sym c.self.invariant.2)
    book.stands.known in
    subst (λ (later : Sessions). FitsIn later c.into_parts-request.result.2 outcome.change) (sym c.debit.ensures.sessions)
    (subst (λ (id : List ℕ). FitsIn now id outcome.change) (sym c.into_parts-request.ensures.opened) (fits (small-book book).held known))

-- ---- and it is a book again

pub invariant_of-self : goal.invariant_of-self
invariant_of-self c =
    let taking = subst (λ (l : Ledger). IsTaking l c.args.taken) (sym c.self.view_is) c.requires in
    let does = taking-outcome c.self.invariant.0 c.args.taken taking in
    let outcome = c.args.taken.outcome in
    let least = does.least in
    let most = does.most in
    let fits : SFits w128 outcome.debit = search rules in
    let book = IsBook-push c.self.inside.terms.begun c.self.inside.limit c.self.inside.history.items c.self.inside.replies.items
    c.self.inside.standing.balances.items c.self.inside.standing.sessions.items c.args.taken.moment c.args.taken.request outcome c.self.invariant.0
    taking.new taking.room taking.borne does in
    let sessions : c.change.new.self.sessions.items ≡ after_change c.self.inside.standing.sessions.items outcome.change =
    c.change.ensures.sessions ∙ ap (λ (ss : List OpenSession). after_change ss outcome.change) (ap (λ (s : Sessions). s.items) c.debit.ensures.sessions) in
    let balances : c.change.new.self.balances.items ≡ after_debit c.self.inside.standing.balances.items outcome.account outcome.debit =
    ap (λ (v : Vec ℤ Global). v.items) c.change.ensures.balances ∙ c.debit.ensures.balances
    ∙ ap (after_debit c.self.inside.standing.balances.items outcome.account) (to_z-of_z w128 outcome.debit fits) in
    let pushed : c.push_reserved.new.self.items ≡ c.self.inside.history.items ++ Take c.args.taken.moment c.args.taken.request ∷ [] =
    c.push_reserved.ensures.items ∙ ap (λ (r : CcRequest). c.self.inside.history.items ++ Take c.args.taken.moment r ∷ [])
    c.into_parts-request.ensures.request in
    let key : ◌≡◌ {A = Key} (record { session = c.into_parts-request.result.1; number = c.into_parts-request.result.0.number }) (key_of c.args.taken.request) =
    ap (λ (id : List ℕ). record { session = id; number = c.into_parts-request.result.0.number }) c.into_parts-request.ensures.session
    ∙ ap (λ (r : CcRequest). record { session = c.args.taken.request.session; number = r.number }) c.into_parts-request.ensures.request in
    let long = length-append c.self.inside.history.items (Take c.args.taken.moment c.args.taken.request ∷ []) in (
      same-book _ c.push_reserved.new.self.items _ c.push_reserved-2.new.self.items _ c.change.new.self.balances.items _ c.change.new.self.sessions.items
          (sym pushed) (sym c.push_reserved-2.ensures.items) (sym balances) (sym sessions) book,
      record {
        for_entries = omega (arith, c.self.invariant.1.for_entries, c.push_reserved.ensures.capacity);
        for_replies = omega (arith, c.self.invariant.1.for_replies, c.push_reserved-2.ensures.capacity);
        for_sessions = (let same = ap (λ (s : Sessions). s.room) c.debit.ensures.sessions in let more = ap length pushed in
            omega (arith, long, c.self.invariant.1.for_sessions, c.change.ensures.room));
      },
      c.change.ensures.accounts ∙ ap (λ (s : Sessions). s.accounts) c.debit.ensures.sessions ∙ c.self.invariant.2
          ∙ sym (ap length balances ∙ after_debit-length c.self.inside.standing.balances.items outcome.account outcome.debit),
      subst (λ (es : List Entry). IsIndexed es c.add.new.self) (sym pushed)
          (c.add.ensures.indexed c.self.inside.history.items c.args.taken.moment c.args.taken.request c.self.invariant.3
          (omega (arith, c.len.ensures, c.self.inside.history.ok.0)) key (subst (IsNew c.self.inside.history.items) (sym key) taking.new)),
      subst (λ (es : List Entry). HasPlaces c.self.inside.limit (length es) c.add.new.self) (sym pushed)
          (record {
            for_firsts = omega (arith, long, c.self.invariant.4.for_firsts, c.add.ensures.firsts);
            for_numbered =
                omega (arith, long, c.self.invariant.4.for_numbered, c.add.ensures.numbered);
          }),
      c.self.invariant.5,
      c.self.invariant.6
          ∙ sym (ap (λ (es : List Entry). terms_of c.self.inside.terms.begun es) pushed
          ∙ terms_of-take c.self.inside.terms.begun c.self.inside.history.items c.args.taken.moment c.args.taken.request),
      c.push_reserved-3.ensures.items
          ∙ ap (λ (debit : ℤ). c.self.inside.charges.items ++ record { account = outcome.account; debit = debit } ∷ []) (to_z-of_z w128 outcome.debit fits)
          ∙ ap (λ (cs : List Charge). cs ++ record { account = outcome.account; debit = outcome.debit } ∷ []) c.self.invariant.7
          ∙ (λ i. charges_of c.self.inside.terms.begun c.self.inside.history.items ++ record { account = does.account i; debit = does.debit i } ∷ [])
          ∙ sym (ap (λ (es : List Entry). charges_of c.self.inside.terms.begun es) pushed
          ∙ charges-push c.self.inside.terms.begun c.self.inside.history.items (Take c.args.taken.moment c.args.taken.request)),
      omega (arith, c.self.invariant.8, c.push_reserved-3.ensures.capacity),
    )
