-- What was written part by part is the spelling of the whole.
use Rattle.std.proofs.Common.{◌≡◌, ℕ, ◌^◌, List, [], Ok, sym}
use Rattle.cc_book.specs.declared.terms.Terms.{Terms}
use Rattle.book_rows.specs.Form.{Adds, both, listed, number}
use Rattle.book_rows.specs.TermsParts.{account, small, tariffs}
use Rattle.book_rows.proofs.Written.{both_added, checked_added}
use Rattle.book_terms.specs.Terms.{terms, terms_of, terms_parts}

-- the terms of their parts, where no account is closed
open_terms : (value : Terms) → value.closed ≡ [] → terms_of (terms_parts value) ≡ Ok value
open_terms value none = λ i. Ok (record value { closed = sym none i })

pub terms_added : (value : Terms) {old a b c d new : List ℕ} → value.closed ≡ [] → Adds (number 4) value.money.currency old a → Adds (small (2 ^ 31)) value.money.exponent a b → Adds (number 4) value.validity b c → Adds tariffs value.tariffs c d → Adds (listed account) value.accounts d new → Adds terms value old new
unfolding terms
terms_added value {old = old} {new = new} none p q r s t =
    checked_added (both (number 4) (both (small (2 ^ 31)) (both (number 4) (both tariffs (listed account))))) terms_of terms_parts value old new (open_terms value none)
    (both_added p (both_added q (both_added r (both_added s t))))
