-- What the terms of an account book are made of, as octets: accounts and tariffs, and a change of terms.
use Rattle.std.specs.Prelude.{ℕ, ◌^◌, ℤ, List, [], ◌∷◌, Option, Some, None, Result, Ok, Err, if◌then◌else◌}
use Rattle.cc_book.specs.declared.account.Account.{Account}
use Rattle.cc_book.specs.declared.terms_change.TermsChange.{TermsChange}
use Rattle.cc_rating.specs.declared.tariff.Tariff.{Tariff}
use Rattle.cc_rating.specs.declared.tariff.UnitKind.{UnitKind}
use Rattle.cc_rating.specs.declared.tariff.UnitKind.TheVariants.{Time, Octets, Units}
use Rattle.cc_rating.specs.declared.tariffs.TariffFault.{TariffFault}
use Rattle.cc_rating.specs.Tariffs.{fault_of}
use Rattle.book_rows.specs.declared.fault.Fault.{Fault}
use Rattle.book_rows.specs.declared.fault.Fault.TheVariants.{BadFlag, BadTariffs, OutOfRange, UnknownKind}
use Rattle.book_rows.specs.Form.{Form, both, checked, counted, listed, number, numbered, optional}
use Rattle.cc_view.specs.declared.request.Subscription.{Subscription}
use Rattle.book_rows.specs.Parts.{is_small, signed, subscription}

-- ---- signed numbers of fewer bits

abbrev pub small_of : ℕ → ℤ → Result ℤ Fault
small_of limit z = if is_small limit z then Ok z else Err OutOfRange

abbrev pub the_number : ℤ → ℤ
the_number z = z

-- a signed number whose size, or below 0 its size less 1, is below the limit
unfoldable pub small : ℕ → Form ℤ
small limit = checked signed (small_of limit) the_number

-- ---- tariffs

abbrev pub kind_number : UnitKind → ℕ
kind_number Time = 0
kind_number Octets = 1
kind_number Units = 2

abbrev pub kinds : List UnitKind
kinds = Time ∷ Octets ∷ Units ∷ []

abbrev pub kind_of : ℕ → Result UnitKind Fault
kind_of = numbered UnknownKind kind_number kinds

-- what the units of a tariff are, by a number of its own
unfoldable pub kind : Form UnitKind
kind = checked (number 1) kind_of kind_number

abbrev pub tariff_of : Option ℕ × (Option ℕ × (UnitKind × (ℕ × (ℕ × (ℕ × ℕ))))) → Result Tariff Fault
tariff_of x = Ok (record {
  group = x.0;
  ident = x.1.0;
  kind = x.1.1.0;
  block = x.1.1.1.0;
  price = x.1.1.1.1.0;
  quantum = x.1.1.1.1.1.0;
  greatest = x.1.1.1.1.1.1;
})

abbrev pub tariff_parts : Tariff → Option ℕ × (Option ℕ × (UnitKind × (ℕ × (ℕ × (ℕ × ℕ)))))
tariff_parts t = (t.group, (t.ident, (t.kind, (t.block, (t.price, (t.quantum, t.greatest))))))

-- the Rating-Group and the Service-Identifier, what the units are, and the four numbers
unfoldable pub tariff : Form Tariff
tariff = checked (both (optional BadFlag (number 4)) (both (optional BadFlag (number 4)) (both kind (both (number 8) (both (number 8) (both (number 8) (number 8))))))) tariff_of tariff_parts

abbrev pub tariffs_by : Option TariffFault → List Tariff → Result (List Tariff) Fault
tariffs_by None xs = Ok xs
tariffs_by (Some fault) xs = Err BadTariffs

abbrev pub tariffs_of : List Tariff → Result (List Tariff) Fault
tariffs_of xs = tariffs_by (fault_of xs) xs

abbrev pub the_tariffs : List Tariff → List Tariff
the_tariffs xs = xs

-- tariffs that a site can have
unfoldable pub tariffs : Form (List Tariff)
tariffs = checked (listed tariff) tariffs_of the_tariffs

-- ---- accounts

abbrev pub account_of : ℕ × (List ℕ × ℤ) → Result Account Fault
account_of x = Ok (record { id_kind = x.0; id = x.1.0; opening = x.1.1 })

abbrev pub account_parts : Account → ℕ × (List ℕ × ℤ)
account_parts a = (a.id_kind, (a.id, a.opening))

-- Subscription-Id-Type and Subscription-Id-Data of the owner, and the balance before the first request
unfoldable pub account : Form Account
account = checked (both (number 4) (both counted (small (2 ^ 63)))) account_of account_parts

-- ---- a change of terms

abbrev pub change_of : List Account × (List Subscription × (List Subscription × Option (List Tariff))) → Result TermsChange Fault
change_of x = Ok (record { joining = x.0; closing = x.1.0; reopening = x.1.1.0; tariffs = x.1.1.1 })

abbrev pub change_parts : TermsChange → List Account × (List Subscription × (List Subscription × Option (List Tariff)))
change_parts c = (c.joining, (c.closing, (c.reopening, c.tariffs)))

-- the accounts that join, the Subscription-Ids of those that close and of those that open again, and the tariffs that hold from
-- then on, where the change says any
unfoldable pub change : Form TermsChange
change = checked (both (listed account) (both (listed subscription) (both (listed subscription) (optional BadFlag tariffs)))) change_of change_parts
