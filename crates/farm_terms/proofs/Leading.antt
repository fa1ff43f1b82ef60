-- A change that leads to the terms of a site.
use Rattle.std.proofs.Common.{◌≡◌, true, List, [], refl, sym, subst}
use Rattle.std.specs.Prelude.{ℕ}
use Rattle.cc_book.specs.declared.account.Account.{Account}
use Rattle.cc_book.specs.declared.terms.Terms.{Terms}
use Rattle.cc_book.specs.declared.terms_change.TermsChange.{TermsChange}
use Rattle.book_terms.specs.Difference.{IsNeeded}
use Rattle.farm_base.specs.declared.site.Site.{Site}
use Rattle.farm_terms.specs.Joining.{AreJoining}
use Rattle.farm_terms.specs.SiteAccounts.{terms_with}
use Rattle.farm_terms.specs.SiteChange.{LeadsToSite}

-- the change that is needed by the site without an account, with those that join
pub leads_with : (site : Site) (text : List ℕ) (now own : Terms) (joined : List Account) (bare change : TermsChange) → AreJoining site text now.accounts joined
    → own ≡ terms_with site [] → IsNeeded now own bare → change ≡ record bare { joining = joined } → LeadsToSite site true now change
leads_with site text now own joined bare change are is needed with =
    let alone : IsNeeded now (terms_with site []) bare = subst (λ (terms : Terms). IsNeeded now terms bare) is needed in
    let led : IsNeeded now (terms_with site are.accounts) (record bare { joining = joined }) = record {
      numbers = record { currency = alone.numbers.currency; exponent = alone.numbers.exponent; validity = alone.numbers.validity };
      openings = are.openings;
      joining = are.joining;
      closing = alone.closing;
      reopening = alone.reopening;
      tariffs = alone.tariffs;
    } in
    (terms_with site are.accounts, (text, are.accounts, are.are, refl), subst (λ (c : TermsChange). IsNeeded now (terms_with site are.accounts) c) (sym with) led)
