use Rattle.std.proofs.Common.{List, ℕ, ◌++◌, ap, ◌∙◌}
use Rattle.cc_book.specs.declared.account.Account.{Account}
use Rattle.book_lines.specs.Lines.{charge_line}
use Rattle.book_lines.proofs.Taken.{is_told}
use Rattle.book_lines.proofs.entries.push_take.Goals as goal

pub returns-clause-taken : goal.returns-clause-taken
returns-clause-taken c =
    let told = is_told c.args.book.now c.in_ok-plan.plan c.in-Some.taken c.args.moment c.args.request.now c.in-Some.is c.in_ok-plan.ensures.good c.in_ok-plan.ensures.after in
    c.commit.ensures.after ∙ told.after

pub returns-clause-line : goal.returns-clause-line
returns-clause-line c =
    let taken = c.in-Some.taken in
    let out = c.args.out.now.items in
    let told = is_told c.args.book.now c.in_ok-plan.plan taken c.args.moment c.args.request.now c.in-Some.is c.in_ok-plan.ensures.good c.in_ok-plan.ensures.after in
    c.in_ok-push_charge_line.ensures
    ∙ ap (λ (accounts : List Account). out ++ charge_line accounts c.in_ok-plan.plan.answered.place c.args.moment c.args.request.now taken.outcome.account taken.outcome.debit taken.outcome.reply) c.accounts.ensures
    ∙ ap (λ (line : List ℕ). out ++ line) told.line
