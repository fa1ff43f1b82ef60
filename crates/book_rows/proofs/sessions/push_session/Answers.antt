use Rattle.std.proofs.Common.{List, subst}
use Rattle.cc_book.specs.declared.price.Price.{Price}
use Rattle.cc_book.specs.declared.session.Hold.{Hold}
use Rattle.book_rows.specs.Form.{Adds, listed}
use Rattle.book_rows.specs.SessionParts.{hold, price}
use Rattle.book_rows.proofs.SessionWritten.{session_added}
use Rattle.book_rows.proofs.sessions.push_session.Goals as goal

pub returns : goal.returns
returns c =
    let holds = subst (λ (xs : List Hold). Adds (listed hold) xs c.push_u64-2.new.out.items c.push_holds.new.out.items) c.as_slice.ensures c.in_ok-push_holds.ensures in
    let prices = subst (λ (xs : List Price). Adds (listed price) xs c.push_holds.new.out.items c.push_prices.new.out.items) c.as_slice-2.ensures c.in_ok-push_prices.ensures in
    session_added c.args.value.now c.in_ok-push_octets.ensures c.in_ok-push_u64.ensures c.in_ok-push_u64-2.ensures holds prices
