use Rattle.std.proofs.Common.{rules}
use Rattle.book_rows.proofs.RequestWritten.{counts_added}
use Rattle.book_rows.proofs.request.push_counts.Goals as goal

pub returns : goal.returns
returns c = counts_added c.args.value (search rules) c.in_ok-push_optional_u64.ensures c.in_ok-push_optional_u64-2.ensures c.in_ok-push_optional_u64-3.ensures
