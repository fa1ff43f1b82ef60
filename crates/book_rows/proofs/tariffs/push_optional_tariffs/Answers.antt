use Rattle.book_rows.specs.declared.fault.Fault.TheVariants.{BadFlag}
use Rattle.book_rows.specs.TermsParts.{tariffs}
use Rattle.book_rows.proofs.Written.{none_added, some_added}
use Rattle.book_rows.proofs.tariffs.push_optional_tariffs.Goals as goal

pub returns-in_ok-push_absent-in-None : goal.returns-in_ok-push_absent-in-None
returns-in_ok-push_absent-in-None c = rw c.in-None.is (none_added BadFlag tariffs _ _ c.in_ok-push_absent-in-None.ensures)

pub returns-in_ok-push_tariffs-in-Some : goal.returns-in_ok-push_tariffs-in-Some
returns-in_ok-push_tariffs-in-Some c = rw c.in-Some.is (some_added BadFlag c.in_ok-push_present-in-Some.ensures c.in_ok-push_tariffs-in-Some.ensures)
