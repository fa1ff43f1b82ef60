use Rattle.book_rows.proofs.SessionWritten.{price_added}
use Rattle.book_rows.proofs.sessions.push_price.Goals as goal

pub returns : goal.returns
returns c = price_added c.args.value.now c.in_ok-push_name.ensures c.in_ok-push_tariff.ensures
