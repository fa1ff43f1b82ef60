use Rattle.std.proofs.Common.{ℕ, subst}
use Rattle.book_rows.specs.Form.{Adds, number}
use Rattle.book_rows.proofs.Written.{flag_added}
use Rattle.book_rows.proofs.numbers.push_flag.Goals as goal

pub returns : goal.returns
returns c = flag_added c.args.value _ _ (subst (λ (n : ℕ). Adds (number 1) n c.args.out.now.items c.push_u8.new.out.items) c.number_of.ensures c.in_ok-push_u8.ensures)
