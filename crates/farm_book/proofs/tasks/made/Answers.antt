use Rattle.std.proofs.Common.{sym, ap}
use Rattle.cc_book.specs.Taking.{Ledger}
use Rattle.farm_book.proofs.Stored.{sum_of_empty}
use Rattle.farm_book.proofs.tasks.made.Goals as goal

pub returns-in-Ok : goal.returns-in-Ok
returns-in-Ok c = record {
  limit = ap (λ (l : Ledger). l.limit) c.in_ok-book.ensures;
  sum = sym (sum_of_empty c.in_ok-terms.terms c.args.site.now.limit c.in_ok-book.book c.in_ok-book.ensures);
}
