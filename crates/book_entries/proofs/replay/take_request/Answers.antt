use Rattle.std.proofs.Common.{ap}
use Rattle.book_rows.specs.declared.row.Sum.{Sum}
use Rattle.book_entries.proofs.Pushed.{taken_again}
use Rattle.book_entries.proofs.replay.take_request.Goals as goal

pub returns-clause-taken : goal.returns-clause-taken
returns-clause-taken c =
    taken_again c.args.book.now c.commit.new.self c.in_ok-plan.plan c.in_ok-row.field-0 c.in-Some.row c.args.octets.now c.in_ok-sum.sum.0 c.commit.ensures.after c.in-Some.is
    (c.in_ok-row.ensures.rows c.args.book.now c.in_ok-plan.ensures.good c.in_ok-plan.ensures.after c.requires) c.in_ok-sum.ensures.0 (ap (λ (s : Sum). s.0) c.in_ok-sum.ensures.1)
