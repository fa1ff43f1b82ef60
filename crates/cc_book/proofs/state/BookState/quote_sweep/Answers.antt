use Rattle.std.proofs.Common.{ℕ, ◌<◌, ◌≤◌, List, length, Ok, ap, subst, sym, ◌∙◌, arith}
use Rattle.cc_book.specs.declared.entry.Entry.{Entry}
use Rattle.std.specs.List.{count_by}
use Rattle.cc_book.specs.Standing.{is_due}
use Rattle.cc_book.specs.Taking.{Ledger, sweep_answer}
use Rattle.cc_book.proofs.Sweeps.{sweep-full, sweep-none, sweep-some}
use Rattle.cc_book.proofs.state.BookState.quote_sweep.Goals as goal

pub returns-then-ended-eq0-clause-answer : goal.returns-then-ended-eq0-clause-answer
returns-then-ended-eq0-clause-answer c =
    let counted = c.count_due-ended.ensures ∙ ap (λ (v : ℕ). count_by (is_due v c.args.moment) c.self.inside.standing.sessions.items) c.validity.ensures in
    sym (ap (λ (l : Ledger). sweep_answer l c.args.moment) c.self.view_is)
    ∙ sweep-none c.self.invariant.0 c.args.moment (sym counted ∙ c.if-ended-eq0.true)

pub returns-in_default-clause-answer : goal.returns-in_default-clause-answer
returns-in_default-clause-answer c =
    let counted = c.count_due-ended.ensures ∙ ap (λ (v : ℕ). count_by (is_due v c.args.moment) c.self.inside.standing.sessions.items) c.validity.ensures in
    let reached = subst (λ (es : List Entry). c.self.inside.limit ≤ length es) c.deref.ensures.value c.in_default.ensures.none in
    sym (ap (λ (l : Ledger). sweep_answer l c.args.moment) c.self.view_is)
    ∙ sweep-full c.self.invariant.0 c.args.moment (omega (arith, counted, c.if-ended-eq0.false)) reached

pub returns-clause-answer : goal.returns-clause-answer
returns-clause-answer c =
    let counted = c.count_due-ended.ensures ∙ ap (λ (v : ℕ). count_by (is_due v c.args.moment) c.self.inside.standing.sessions.items) c.validity.ensures in
    let room = subst (λ (es : List Entry). length es < c.self.inside.limit) c.deref.ensures.value c.in-Some.ensures.some.1 in
    sym (ap (λ (l : Ledger). sweep_answer l c.args.moment) c.self.view_is)
    ∙ sweep-some c.self.invariant.0 c.args.moment room
    ∙ ap Ok (sym counted)
