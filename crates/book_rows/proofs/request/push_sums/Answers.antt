use Rattle.std.proofs.Common.{rules}
use Rattle.book_rows.proofs.RequestWritten.{sums_added}
use Rattle.book_rows.proofs.request.push_sums.Goals as goal

pub returns : goal.returns
returns c = sums_added c.args.value (search rules) c.in_ok-push_u128.ensures c.in_ok-push_u128-2.ensures c.in_ok-push_u128-3.ensures
