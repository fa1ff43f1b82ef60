use Rattle.book_rows.specs.declared.fault.Fault.TheVariants.{BadFlag}
use Rattle.book_rows.specs.Form.{number}
use Rattle.book_rows.proofs.Written.{none_added, some_added}
use Rattle.book_rows.proofs.numbers.push_optional_u64.Goals as goal

pub returns-in_ok-push_absent-in-None : goal.returns-in_ok-push_absent-in-None
returns-in_ok-push_absent-in-None c = rw c.in-None.is (none_added BadFlag (number 8) _ _ c.in_ok-push_absent-in-None.ensures)

pub returns-in_ok-push_u64-in-Some : goal.returns-in_ok-push_u64-in-Some
returns-in_ok-push_u64-in-Some c = rw c.in-Some.is (some_added BadFlag c.in_ok-push_present-in-Some.ensures c.in_ok-push_u64-in-Some.ensures)
