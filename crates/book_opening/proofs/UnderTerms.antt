-- A book that comes under the terms of a site.
use Rattle.std.proofs.Common.{◌≡◌, Bool, true, ap, sym, subst, ◌∙◌, inl, inr}
use Rattle.dia_base.specs.declared.number.Moment.{Moment}
use Rattle.cc_book.specs.declared.terms.Terms.{Terms}
use Rattle.cc_book.specs.declared.terms_change.TermsChange.{TermsChange}
use Rattle.cc_book.specs.Changing.{with_change}
use Rattle.cc_book.specs.Taking.{Ledger}
use Rattle.cc_book.specs.TermsChange.{changed_terms, says_nothing}
use Rattle.cc_book.proofs.Postings.{terms_of-change}
use Rattle.book_terms.specs.Difference.{Hold, IsNeeded}
use Rattle.book_terms.proofs.Leading.{hold_already, lead_there}
use Rattle.book_opening.specs.declared.fault.BookFault.{BookFault}
use Rattle.book_opening.specs.declared.fault.BookFault.TheVariants.{File, OtherTerms, TermsDiffer, NotChanged, NotStored, DamagedTerms, Row, OutOfMemory}
use Rattle.book_opening.specs.Opened.{HoldsWhereLed, IsRenewed, IsRenewedBy, now_in}
use Rattle.book_opening.specs.Refused.{IsWhyNot, IsWhyNotBy}

-- the terms that are wanted hold behind the change that is needed
pub hold_behind : (old new : Ledger) (wanted : Terms) (moment : Moment) (change : TermsChange) → IsNeeded (now_in old) wanted change → new ≡ with_change old moment change → Hold (now_in new) wanted
hold_behind old new wanted moment change needed is =
    let P : Terms → Type 0 = λ terms. Hold terms wanted in
    let behind : now_in new ≡ changed_terms (now_in old) change = ap now_in is ∙ terms_of-change old.terms old.history moment change in
    subst P (sym behind) (lead_there (now_in old) wanted change needed)

-- ---- a change that is handed in

-- where it leads, the terms hold: already, or behind its entry
pub led_already : (old new : Ledger) (change : TermsChange) → new ≡ old → says_nothing change ≡ true → HoldsWhereLed change old new
led_already old new change same nothing wanted needed =
    let P : Ledger → Type 0 = λ book. Hold (now_in book) wanted in
    subst P (sym same) (hold_already (now_in old) wanted change needed nothing)

pub led_behind : (old new : Ledger) (moment : Moment) (change : TermsChange) → new ≡ with_change old moment change → HoldsWhereLed change old new
led_behind old new moment change is wanted needed = hold_behind old new wanted moment change needed is

-- the same, told of the change that is needed
pub is_renewed : (old new : Ledger) (wanted : Terms) (moment : Moment) (allowed : Bool) (change : TermsChange) → IsNeeded (now_in old) wanted change
    → IsRenewedBy change moment allowed old new → IsRenewed wanted moment allowed old new
is_renewed old new wanted moment allowed change needed (inl same) = inl same.1
is_renewed old new wanted moment allowed change needed (inr changed) = inr (changed.0, record { change = change; needed = needed; changed = changed.1 })

pub is_why_not : (book : Ledger) (wanted : Terms) (allowed : Bool) (change : TermsChange) → IsNeeded (now_in book) wanted change → (fault : BookFault)
    → IsWhyNotBy change allowed book fault → IsWhyNot wanted allowed book fault
is_why_not book wanted allowed change needed (TermsDiffer difference) why = (why.0, (change, needed, why.1, why.2))
is_why_not book wanted allowed change needed (NotChanged refusal) why = (why.0, (change, needed, why.1))
is_why_not book wanted allowed change needed (NotStored error) why = why
is_why_not book wanted allowed change needed OutOfMemory why = why
is_why_not book wanted allowed change needed (OtherTerms key) why = absurd why
is_why_not book wanted allowed change needed (File error) why = absurd why
is_why_not book wanted allowed change needed DamagedTerms why = absurd why
is_why_not book wanted allowed change needed (Row error) why = absurd why
