use Rattle.book_rows.proofs.AboutExact.{standing_added}
use Rattle.book_rows.proofs.about.push_standing.Goals as goal

pub returns : goal.returns
returns c = standing_added c.args.value c.in_ok-push_u64.ensures c.in_ok-push_u64-2.ensures c.in_ok-push_u128.ensures
