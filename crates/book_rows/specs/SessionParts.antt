-- An open session as octets: its Session-Id, its account, the moment of its last request, what it holds, and the prices of its services.
use Rattle.std.specs.Prelude.{ℕ, List, Option, Result, Ok}
use Rattle.cc_book.specs.declared.price.Price.{Price}
use Rattle.cc_book.specs.declared.session.Hold.{Hold}
use Rattle.cc_book.specs.declared.session.OpenSession.{OpenSession}
use Rattle.cc_rating.specs.declared.tariff.Tariff.{Tariff}
use Rattle.cc_view.specs.declared.request.ServiceName.{ServiceName}
use Rattle.book_rows.specs.declared.fault.Fault.{Fault}
use Rattle.book_rows.specs.declared.fault.Fault.TheVariants.{BadFlag}
use Rattle.book_rows.specs.Form.{Form, both, checked, counted, listed, number, optional}
use Rattle.book_rows.specs.TermsParts.{tariff}

abbrev pub name_of : Option ℕ × Option ℕ → Result ServiceName Fault
name_of x = Ok (record { group = x.0; ident = x.1 })

abbrev pub name_parts : ServiceName → Option ℕ × Option ℕ
name_parts n = (n.group, n.ident)

-- the Rating-Group and the Service-Identifier of a service
unfoldable pub name : Form ServiceName
name = checked (both (optional BadFlag (number 4)) (optional BadFlag (number 4))) name_of name_parts

abbrev pub hold_of : ServiceName × ℕ → Result Hold Fault
hold_of x = Ok (record { service = x.0; cost = x.1 })

abbrev pub hold_parts : Hold → ServiceName × ℕ
hold_parts h = (h.service, h.cost)

-- what is held for a service
unfoldable pub hold : Form Hold
hold = checked (both name (number 16)) hold_of hold_parts

abbrev pub price_of : ServiceName × Tariff → Result Price Fault
price_of x = Ok (record { service = x.0; tariff = x.1 })

abbrev pub price_parts : Price → ServiceName × Tariff
price_parts p = (p.service, p.tariff)

-- the tariff at which a service was granted
unfoldable pub price : Form Price
price = checked (both name tariff) price_of price_parts

abbrev pub session_of : List ℕ × (ℕ × (ℕ × (List Hold × List Price))) → Result OpenSession Fault
session_of x = Ok (record { id = x.0; account = x.1.0; last = record { 0 = x.1.1.0 }; holds = x.1.1.1.0; prices = x.1.1.1.1 })

abbrev pub session_parts : OpenSession → List ℕ × (ℕ × (ℕ × (List Hold × List Price)))
session_parts s = (s.id, (s.account, (s.last.0, (s.holds, s.prices))))

-- an open session
unfoldable pub session : Form OpenSession
session = checked (both counted (both (number 8) (both (number 8) (both (listed hold) (listed price))))) session_of session_parts
