use Rattle.book_rows.proofs.Repeated.{listed_added}
use Rattle.book_rows.specs.TermsParts.{account}
use Rattle.book_rows.proofs.accounts.push_accounts.Goals as goal

pub returns : goal.returns
returns c = listed_added account c.args.values.now _ _ _ c.in_ok-push_u64.ensures c.in_ok-push_all_accounts.ensures
