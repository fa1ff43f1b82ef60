use Rattle.std.proofs.Common.{ℕ, subst}
use Rattle.book_rows.specs.Form.{Adds, number}
use Rattle.book_rows.proofs.ReplyWritten.{code_added}
use Rattle.book_rows.proofs.reply.push_code.Goals as goal

pub returns : goal.returns
returns c = code_added c.args.value _ _ (subst (λ (n : ℕ). Adds (number 4) n c.args.out.now.items c.push_u32.new.out.items) c.number.ensures c.in_ok-push_u32.ensures)
