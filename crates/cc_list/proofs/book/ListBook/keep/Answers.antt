use Rattle.std.proofs.Common.{rules, ◌≡◌, ◌<◌, List, [], ◌∷◌, ◌++◌, length, ap, subst, sym, ◌∙◌, arith, SFits, Vec, Global, vec_len}
use Rattle.std.specs.Int.{w128}
use Rattle.std.specs.Prelude.{ℤ, vec_capacity}
use Rattle.std.proofs.lemmas.Int.{to_z-of_z}
use Rattle.cc_view.specs.declared.request.CcRequest.{CcRequest}
use Rattle.cc_book.specs.declared.entry.Entry.{Entry}
use Rattle.cc_book.specs.declared.entry.Entry.TheVariants.{Take}
use Rattle.cc_book.specs.declared.session.OpenSession.{OpenSession}
use Rattle.cc_book.specs.AccountMachine.{terms_of}
use Rattle.cc_book.specs.Planning.{IsTaking}
use Rattle.cc_book.specs.Standing.{IsPlacedIn, after_change, after_debit}
use Rattle.cc_book.specs.Taking.{Ledger}
use Rattle.cc_book.proofs.Books.{IsBook-push, account-within, change-within, replies-long, same-book, sessions-within, small-book, taking-outcome}
use Rattle.cc_book.proofs.Postings.{terms_of-take}
use Rattle.cc_list.proofs.book.ListBook.keep.Goals as goal

-- ---- there is room

pub push_reserved-requires : goal.push_reserved-requires
push_reserved-requires c =
    let taking = subst (λ (l : Ledger). IsTaking l c.args.taken) (sym c.self.view_is) c.requires in
    omega (arith, taking.room, c.self.invariant.1.for_entries, c.self.inside.history.ok.0)

pub push_reserved-requires-2 : goal.push_reserved-requires-2
push_reserved-requires-2 c =
    let taking = subst (λ (l : Ledger). IsTaking l c.args.taken) (sym c.self.view_is) c.requires in
    let long = replies-long c.self.invariant.0 in
    omega (arith, taking.room, c.self.invariant.1.for_replies, c.self.inside.replies.ok.0)

pub change-requires-clause-room : goal.change-requires-clause-room
change-requires-clause-room c =
    let taking = subst (λ (l : Ledger). IsTaking l c.args.taken) (sym c.self.view_is) c.requires in
    let few = sessions-within c.self.invariant.0 in
    let room : vec_len c.self.inside.standing.sessions < vec_capacity c.self.inside.standing.sessions =
    omega (arith, taking.room, c.self.invariant.1.for_sessions, c.self.inside.standing.sessions.ok.0) in
    subst (λ (v : Vec OpenSession Global). vec_len v < vec_capacity v) (sym c.debit.ensures.sessions) room

-- ---- what is debited and changed is there

pub debit-requires-clause-within : goal.debit-requires-clause-within
debit-requires-clause-within c =
    let taking = subst (λ (l : Ledger). IsTaking l c.args.taken) (sym c.self.view_is) c.requires in
    account-within c.self.invariant.0 c.args.taken.moment c.args.taken.request c.args.taken.outcome (taking-outcome c.self.invariant.0 c.args.taken taking)

pub debit-requires-clause-least : goal.debit-requires-clause-least
debit-requires-clause-least c = (small-book c.self.invariant.0).least

pub debit-requires-clause-most : goal.debit-requires-clause-most
debit-requires-clause-most c = (small-book c.self.invariant.0).most

pub change-requires-clause-within : goal.change-requires-clause-within
change-requires-clause-within c =
    let taking = subst (λ (l : Ledger). IsTaking l c.args.taken) (sym c.self.view_is) c.requires in
    let same = ap (λ (v : Vec OpenSession Global). v.items) c.debit.ensures.sessions in
    subst (λ (ss : List OpenSession). IsPlacedIn c.args.taken.outcome.change (length ss)) (sym same)
    (change-within c.self.invariant.0 c.args.taken.moment c.args.taken.request c.args.taken.outcome (taking-outcome c.self.invariant.0 c.args.taken taking))

-- ---- and it is a book again

pub invariant_of-self : goal.invariant_of-self
invariant_of-self c =
    let taking = subst (λ (l : Ledger). IsTaking l c.args.taken) (sym c.self.view_is) c.requires in
    let does = taking-outcome c.self.invariant.0 c.args.taken taking in
    let outcome = c.args.taken.outcome in
    let least = does.least in
    let most = does.most in
    let fits : SFits w128 outcome.debit = search rules in
    let book = IsBook-push c.self.inside.terms c.self.inside.limit c.self.inside.history.items c.self.inside.replies.items
    c.self.inside.standing.balances.items c.self.inside.standing.sessions.items c.args.taken.moment c.args.taken.request outcome c.self.invariant.0
    taking.new taking.room taking.borne does in
    let sessions : c.change.new.self.sessions.items ≡ after_change c.self.inside.standing.sessions.items outcome.change =
    c.change.ensures.sessions ∙ ap (λ (ss : List OpenSession). after_change ss outcome.change)
    (ap (λ (v : Vec OpenSession Global). v.items) c.debit.ensures.sessions) in
    let balances : c.change.new.self.balances.items ≡ after_debit c.self.inside.standing.balances.items outcome.account outcome.debit =
    ap (λ (v : Vec ℤ Global). v.items) c.change.ensures.balances ∙ c.debit.ensures.balances
    ∙ ap (after_debit c.self.inside.standing.balances.items outcome.account) (to_z-of_z w128 outcome.debit fits) in
    let pushed : c.push_reserved.new.self.items ≡ c.self.inside.history.items ++ Take c.args.taken.moment c.args.taken.request ∷ [] =
    c.push_reserved.ensures.items ∙ ap (λ (r : CcRequest). c.self.inside.history.items ++ Take c.args.taken.moment r ∷ [])
    c.into_parts-request.ensures.request in (
      same-book _ c.push_reserved.new.self.items _ c.push_reserved-2.new.self.items _ c.change.new.self.balances.items _ c.change.new.self.sessions.items
          (sym pushed) (sym c.push_reserved-2.ensures.items) (sym balances) (sym sessions) book,
      record {
        for_entries = omega (arith, c.self.invariant.1.for_entries, c.push_reserved.ensures.capacity);
        for_replies = omega (arith, c.self.invariant.1.for_replies, c.push_reserved-2.ensures.capacity);
        for_sessions =
            (let same = ap (λ (v : Vec OpenSession Global). vec_capacity v)
            c.debit.ensures.sessions in omega (arith, c.self.invariant.1.for_sessions, c.change.ensures.room));
      },
      c.self.invariant.2,
      c.self.invariant.3
          ∙ sym (ap (λ (es : List Entry). terms_of c.self.inside.terms es) pushed
          ∙ terms_of-take c.self.inside.terms c.self.inside.history.items c.args.taken.moment c.args.taken.request),
    )
