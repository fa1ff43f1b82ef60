use Rattle.std.proofs.Common.{rules, ◌∙◌}
use mir.Syntax.{w128}
use mir.Val.{SFits}
use Rattle.std.proofs.lemmas.Int.{to_z-of_z}
use Rattle.book_entries.proofs.Pushed.{step_is, taken_row}
use Rattle.book_entries.proofs.rows.row_of_plan.Goals as goal

pub returns : goal.returns
returns c =
    let fits : SFits w128 c.in-Some.taken.outcome.debit = search rules in
    let step = simp to_z-of_z at c.in_ok-row.ensures.parts.2 in
    record {
      rows = λ ledger good after e.
          taken_row ledger c.args.plan.now c.in-Some.taken c.args.moment c.args.request.now c.args.before.0 c.in_ok-row.row c.in-Some.is good after e
          c.in_ok-row.ensures.parts.0 c.in_ok-row.ensures.parts.1 (step ∙ step_is c.in_ok-copy_of_request.ensures c.in_ok-copy_of_reply.ensures) c.in_ok-row.ensures.chains;
    }
