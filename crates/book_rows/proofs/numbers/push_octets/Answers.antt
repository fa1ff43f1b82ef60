use Rattle.std.proofs.Common.{List, ℕ, subst}
use Rattle.book_rows.specs.Form.{Adds, counted}
use Rattle.book_rows.proofs.Written.{counted_added}
use Rattle.book_rows.proofs.numbers.push_octets.Goals as goal

pub returns : goal.returns
returns c = subst (λ (text : List ℕ). Adds counted text c.args.out.now.items c.extend_from_slice.new.self.items) c.as_slice-octets.ensures (counted_added c.as_slice-octets.result.now _ _ _ c.in_ok-push_u64.ensures c.in_ok-extend_from_slice.ensures.items)
