use Rattle.book_rows.proofs.SessionWritten.{name_added}
use Rattle.book_rows.proofs.sessions.push_name.Goals as goal

pub returns : goal.returns
returns c = name_added c.args.value c.in_ok-push_optional_u32.ensures c.in_ok-push_optional_u32-2.ensures
