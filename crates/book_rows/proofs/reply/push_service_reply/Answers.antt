use Rattle.book_rows.proofs.ReplyWritten.{service_reply_added}
use Rattle.book_rows.proofs.reply.push_service_reply.Goals as goal

pub returns : goal.returns
returns c = service_reply_added c.args.value.now c.in_ok-push_name.ensures c.in_ok-push_flag.ensures c.in_ok-push_code.ensures c.in_ok-push_optional_unit.ensures c.in_ok-push_optional_u64.ensures c.in_ok-push_optional_u32.ensures c.in_ok-push_flag-2.ensures
