use Rattle.book_rows.proofs.Repeated.{listed_added}
use Rattle.book_rows.specs.SessionParts.{hold}
use Rattle.book_rows.proofs.sessions.push_holds.Goals as goal

pub returns : goal.returns
returns c = listed_added hold c.args.values.now _ _ _ c.in_ok-push_u64.ensures c.in_ok-push_all_holds.ensures
