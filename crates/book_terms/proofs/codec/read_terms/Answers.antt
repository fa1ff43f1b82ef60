use Rattle.std.proofs.Common.{arith}
use Rattle.book_terms.proofs.Exact.{is_found}
use Rattle.book_terms.proofs.codec.read_terms.Goals as goal

pub returns-clause-found : goal.returns-clause-found
returns-clause-found c = is_found c.args.octets.now c.whole_terms.result (λ i. omega (arith, c.type_inv.octets i)) c.whole_terms.ensures
