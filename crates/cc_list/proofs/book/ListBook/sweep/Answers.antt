use Rattle.std.proofs.Common.{◌≡◌, ◌<◌, ◌≤◌, List, length, Ok, Vec, Global, ap, subst, sym, ◌∙◌, arith}
use Rattle.std.specs.Prelude.{ℤ, count_by}
use Rattle.cc_book.specs.declared.entry.Entry.{Entry}
use Rattle.cc_book.specs.AccountMachine.{terms_of}
use Rattle.cc_book.specs.Standing.{is_due}
use Rattle.cc_book.specs.Taking.{Ledger, sweep_answer}
use Rattle.cc_book.proofs.Books.{replies-long, same-book}
use Rattle.cc_book.proofs.Postings.{terms_of-sweep}
use Rattle.cc_book.proofs.Sweeps.{IsBook-sweep, sweep-full, sweep-none, sweep-some}
use Rattle.cc_list.proofs.book.ListBook.sweep.Goals as goal

pub returns-then-ended-eq0-clause-answer : goal.returns-then-ended-eq0-clause-answer
returns-then-ended-eq0-clause-answer c =
    sym (ap (λ (l : Ledger). sweep_answer l c.args.moment) c.self.view_is)
    ∙ sweep-none c.self.invariant.0 c.args.moment (sym c.count_due-ended.ensures ∙ c.if-ended-eq0.true)

pub returns-in_default-clause-answer : goal.returns-in_default-clause-answer
returns-in_default-clause-answer c =
    let reached = subst (λ (es : List Entry). c.self.inside.limit ≤ length es) c.deref.ensures.value c.in_default.ensures.none in
    sym (ap (λ (l : Ledger). sweep_answer l c.args.moment) c.self.view_is)
    ∙ sweep-full c.self.invariant.0 c.args.moment (omega (arith, c.count_due-ended.ensures, c.if-ended-eq0.false)) reached

pub push_reserved-requires-2 : goal.push_reserved-requires-2
push_reserved-requires-2 c =
    let room = subst (λ (es : List Entry). length es < c.self.inside.limit) c.deref.ensures.value c.in-Some.ensures.some.1 in
    let long = replies-long c.self.invariant.0 in
    omega (arith, c.self.invariant.1.for_replies, c.self.inside.replies.ok.0)

pub invariant_of-self : goal.invariant_of-self
invariant_of-self c =
    let room = subst (λ (es : List Entry). length es < c.self.inside.limit) c.deref.ensures.value c.in-Some.ensures.some.1 in
    let sessions = c.self.inside.standing.sessions.items in
    let some : 0 < count_by (is_due c.self.inside.terms.validity c.args.moment) sessions = omega (arith, c.count_due-ended.ensures, c.if-ended-eq0.false) in
    let book = IsBook-sweep c.self.inside.terms c.self.inside.limit c.self.inside.history.items c.self.inside.replies.items
    c.self.inside.standing.balances.items sessions c.args.moment c.self.invariant.0 room some in
    let balances : c.sweep.new.self.balances.items ≡ c.self.inside.standing.balances.items = ap (λ (v : Vec ℤ Global). v.items) c.sweep.ensures.balances in (
      same-book _ c.push_reserved.new.self.items _ c.push_reserved-2.new.self.items _ c.sweep.new.self.balances.items _ c.sweep.new.self.sessions.items
          (sym c.push_reserved.ensures.items) (sym c.push_reserved-2.ensures.items) (sym balances) (sym c.sweep.ensures.sessions) book,
      record {
        for_entries = omega (arith, c.self.invariant.1.for_entries, c.push_reserved.ensures.capacity);
        for_replies = omega (arith, c.self.invariant.1.for_replies, c.push_reserved-2.ensures.capacity);
        for_sessions = omega (arith, c.self.invariant.1.for_sessions, c.sweep.ensures.room);
      },
      c.self.invariant.2,
      c.self.invariant.3
          ∙ sym (ap (λ (es : List Entry). terms_of c.self.inside.terms es) c.push_reserved.ensures.items
          ∙ terms_of-sweep c.self.inside.terms c.self.inside.history.items c.args.moment),
    )

pub returns-clause-answer : goal.returns-clause-answer
returns-clause-answer c =
    let room = subst (λ (es : List Entry). length es < c.self.inside.limit) c.deref.ensures.value c.in-Some.ensures.some.1 in
    sym (ap (λ (l : Ledger). sweep_answer l c.args.moment) c.self.view_is)
    ∙ sweep-some c.self.invariant.0 c.args.moment room
    ∙ ap Ok (sym c.count_due-ended.ensures)
