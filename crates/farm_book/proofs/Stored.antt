-- Books under the terms of a site.
use Rattle.std.proofs.Common.{◌≡◌, ℕ, Bool, true, false, List, [], refl, ap, ◌∙◌}
use Rattle.cc_book.specs.declared.entry.Entry.{Entry}
use Rattle.cc_book.specs.declared.terms.Terms.{Terms}
use Rattle.cc_book.specs.Taking.{Ledger}
use Rattle.book_entries.specs.Replayed.{sum_in}
use Rattle.book_entries.specs.Rows.{rows_of, sum_of}
use Rattle.farm_base.specs.declared.site.Site.{Site}
use Rattle.farm_terms.specs.SiteAccounts.{AreTermsOf}

no_sum : (terms : Terms) → sum_of terms [] ≡ 0
unfolding rows_of sum_of
no_sum terms = refl

-- a book without an entry has the sum 0
pub sum_of_empty : (terms : Terms) (limit : ℕ) (book : Ledger) → book ≡ record { terms = terms; limit = limit; history = [] } → sum_in book ≡ 0
sum_of_empty terms limit book e = ap sum_in e ∙ no_sum terms

-- a book begins with no account that is closed
pub none_closed : (site : Site) (with_file : Bool) (wanted : Terms) → AreTermsOf site with_file wanted → wanted.closed ≡ []
none_closed site false wanted are = ap (λ (terms : Terms). terms.closed) are
none_closed site true wanted are = ap (λ (terms : Terms). terms.closed) are.3
