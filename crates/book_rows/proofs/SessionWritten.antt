-- An open session, written part by part.
use Rattle.std.proofs.Common.{ℕ, List, refl, length}
use Rattle.cc_book.specs.declared.price.Price.{Price}
use Rattle.cc_book.specs.declared.session.Hold.{Hold}
use Rattle.cc_book.specs.declared.session.OpenSession.{OpenSession}
use Rattle.cc_view.specs.declared.request.ServiceName.{ServiceName}
use Rattle.book_rows.specs.declared.fault.Fault.TheVariants.{BadFlag}
use Rattle.book_rows.specs.Form.{Adds, both, counted, listed, number, optional}
use Rattle.book_rows.specs.SessionParts.{hold, hold_of, hold_parts, name, name_of, name_parts, price, price_of, price_parts, session, session_of, session_parts}
use Rattle.book_rows.specs.TermsParts.{tariff}
use Rattle.book_rows.proofs.Written.{both_added, checked_added}

pub name_added : (value : ServiceName) {old a new : List ℕ} → Adds (optional BadFlag (number 4)) value.group old a → Adds (optional BadFlag (number 4)) value.ident a new
    → Adds name value old new
unfolding name
name_added value {old = old} {new = new} p q =
    checked_added (both (optional BadFlag (number 4)) (optional BadFlag (number 4))) name_of name_parts value old new refl (both_added p q)

pub hold_added : (value : Hold) {old a new : List ℕ} → Adds name value.service old a → Adds (number 16) value.cost a new → Adds hold value old new
unfolding hold
hold_added value {old = old} {new = new} p q = checked_added (both name (number 16)) hold_of hold_parts value old new refl (both_added p q)

pub price_added : (value : Price) {old a new : List ℕ} → Adds name value.service old a → Adds tariff value.tariff a new → Adds price value old new
unfolding price
price_added value {old = old} {new = new} p q = checked_added (both name tariff) price_of price_parts value old new refl (both_added p q)

pub session_added : (value : OpenSession) {old a b c d new : List ℕ} → Adds counted value.id old a → Adds (number 8) value.account a b → Adds (number 8) value.last.0 b c
    → Adds (listed hold) value.holds c d → Adds (listed price) value.prices d new → Adds session value old new
unfolding session
session_added value {old = old} {new = new} p q r s t =
    checked_added (both counted (both (number 8) (both (number 8) (both (listed hold) (listed price))))) session_of session_parts value old new refl
    (both_added p (both_added q (both_added r (both_added s t))))
