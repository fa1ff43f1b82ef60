use Rattle.std.proofs.Common.{List, subst}
use Rattle.cc_view.specs.declared.reply.ServiceReply.{ServiceReply}
use Rattle.book_rows.specs.Form.{Adds, listed}
use Rattle.book_rows.specs.Parts.{service_reply}
use Rattle.book_rows.proofs.ReplyWritten.{reply_added}
use Rattle.book_rows.proofs.reply.push_reply.Goals as goal

pub returns : goal.returns
returns c =
    let services = subst (λ (xs : List ServiceReply). Adds (listed service_reply) xs c.push_code.new.out.items c.push_service_replies.new.out.items) c.as_slice.ensures c.in_ok-push_service_replies.ensures in
    reply_added c.args.value.now c.in_ok-push_code.ensures services c.in_ok-push_optional_cost.ensures c.in_ok-push_optional_u32.ensures
