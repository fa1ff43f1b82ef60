use Rattle.std.specs.Prelude.{◌≡◌, Bool}
use Rattle.book_terms.specs.Difference.{IsNeeded}
use Rattle.cc_book.specs.declared.terms.Terms.{Terms}
use Rattle.cc_book.specs.declared.terms_change.TermsChange.{TermsChange}
use Rattle.cc_book.specs.Taking.{Ledger}
use Rattle.book_opening.specs.Opened.{HoldsWhereLed, now_in}
use Rattle.farm_base.specs.declared.site.Site.{Site}
use Rattle.farm_live.specs.Serving.{IsServed}
use Rattle.farm_terms.specs.SiteAccounts.{AreTermsOf}
use Rattle.farm_terms.specs.SiteChange.{LeadsToSite}

pub needed_change_leads : (site : Site) (with_file : Bool) (wanted now : Terms) (change : TermsChange) → AreTermsOf site with_file wanted → IsNeeded now wanted change
    → LeadsToSite site with_file now change
needed_change_leads site with_file wanted now change are needed = (wanted, are, needed)

pub led_terms_hold : (site : Site) (with_file : Bool) (opened book : Ledger) (change : TermsChange) → LeadsToSite site with_file (now_in opened) change
    → HoldsWhereLed change opened book → book.limit ≡ site.limit → IsServed site with_file book
led_terms_hold site with_file opened book change leads hold limit = (leads.0, leads.1, hold leads.0 leads.2, limit)
