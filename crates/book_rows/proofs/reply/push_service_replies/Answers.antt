use Rattle.book_rows.specs.Parts.{service_reply}
use Rattle.book_rows.proofs.Repeated.{listed_added}
use Rattle.book_rows.proofs.reply.push_service_replies.Goals as goal

pub returns : goal.returns
returns c = listed_added service_reply c.args.values.now _ _ _ c.in_ok-push_u64.ensures c.in_ok-push_all_service_replies.ensures
