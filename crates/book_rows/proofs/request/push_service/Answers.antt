use Rattle.book_rows.proofs.RequestWritten.{service_added}
use Rattle.book_rows.proofs.request.push_service.Goals as goal

pub returns : goal.returns
returns c = service_added c.args.value.now c.in_ok-push_optional_u32.ensures c.in_ok-push_optional_u32-2.ensures c.in_ok-push_flag.ensures c.in_ok-push_optional_counts.ensures c.in_ok-push_sums.ensures
