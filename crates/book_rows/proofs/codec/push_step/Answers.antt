use Rattle.book_rows.proofs.RowWritten.{change_terms_added, sweep_added, take_added}
use Rattle.book_rows.proofs.codec.push_step.Goals as goal

pub returns-in_ok-push_absent-in-Sweep : goal.returns-in_ok-push_absent-in-Sweep
returns-in_ok-push_absent-in-Sweep c = rw c.in-Sweep.is (sweep_added _ _ c.in_ok-push_absent-in-Sweep.ensures)

pub returns-in_ok-push_taken-in-Take : goal.returns-in_ok-push_taken-in-Take
returns-in_ok-push_taken-in-Take c = rw c.in-Take.is (take_added _ c.in_ok-push_present-in-Take.ensures c.in_ok-push_taken-in-Take.ensures)

pub returns-in_ok-push_change-in-ChangeTerms : goal.returns-in_ok-push_change-in-ChangeTerms
returns-in_ok-push_change-in-ChangeTerms c = rw c.in-ChangeTerms.is (change_terms_added _ c.in_ok-push_changing-in-ChangeTerms.ensures c.in_ok-push_change-in-ChangeTerms.ensures)
