use Rattle.std.proofs.Common.{ℕ, subst}
use Rattle.book_rows.specs.Form.{Adds, number}
use Rattle.book_rows.proofs.TermsPartsWritten.{kind_added}
use Rattle.book_rows.proofs.tariffs.push_kind.Goals as goal

pub returns : goal.returns
returns c = kind_added c.args.value _ _ (subst (λ (n : ℕ). Adds (number 1) n c.args.out.now.items c.push_u8.new.out.items) c.kind_octet.ensures c.in_ok-push_u8.ensures)
