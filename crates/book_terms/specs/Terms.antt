-- The terms of an account book as octets.
use Rattle.std.specs.Prelude.{ℕ, ◌^◌, ℤ, List, [], Result, Ok}
use Rattle.cc_book.specs.declared.account.Account.{Account}
use Rattle.cc_book.specs.declared.terms.Terms.{Terms}
use Rattle.cc_rating.specs.declared.tariff.Tariff.{Tariff}
use Rattle.book_rows.specs.declared.fault.Fault.{Fault}
use Rattle.book_rows.specs.Form.{Form, both, checked, listed, number}
use Rattle.book_rows.specs.TermsParts.{account, small, tariffs}

abbrev pub terms_of : ℕ × (ℤ × (ℕ × (List Tariff × List Account))) → Result Terms Fault
terms_of x = Ok (record {
  accounts = x.1.1.1.1;
  closed = [];
  tariffs = x.1.1.1.0;
  validity = x.1.1.0;
  money = record { currency = x.0; exponent = x.1.0 };
})

abbrev pub terms_parts : Terms → ℕ × (ℤ × (ℕ × (List Tariff × List Account)))
terms_parts t = (t.money.currency, (t.money.exponent, (t.validity, (t.tariffs, t.accounts))))

-- The currency and the exponent of the money, Validity-Time of a grant, the tariffs, and the accounts. A book begins with no account
-- closed, so nothing is told of that.
unfoldable pub terms : Form Terms
terms = checked (both (number 4) (both (small (2 ^ 31)) (both (number 4) (both tariffs (listed account))))) terms_of terms_parts
