-- The change that leads from the terms of a book to those of a site.
use Rattle.std.specs.Prelude.{Bool, is_some}
use Rattle.cc_book.specs.declared.terms.Terms.{Terms}
use Rattle.cc_book.specs.declared.terms_change.TermsChange.{TermsChange}
use Rattle.book_terms.specs.declared.key.TermsKey.{TermsKey}
use Rattle.book_terms.specs.Difference.{DiffersIn, IsNeeded}
use Rattle.farm_base.specs.declared.site.Site.{Site}
use Rattle.farm_terms.specs.declared.change.SiteChangeFault.{SiteChangeFault}
use Rattle.farm_terms.specs.declared.change.SiteChangeFault.TheVariants as change
use Rattle.farm_terms.specs.declared.opening.AccountsText.{AccountsText}
use Rattle.farm_terms.specs.SiteAccounts.{AreNoTerms, AreNoTermsAt, AreTermsOf}

-- a change leads from these terms to those of the site, alone or with the accounts of a text
abbrev pub LeadsToSite : Site → Bool → Terms → TermsChange → Type 0
LeadsToSite site with_file now change = (wanted : Terms) × AreTermsOf site with_file wanted × IsNeeded now wanted change

-- ---- why there is none

-- these terms differ from those of the site, alone or with the accounts of a text, first in a key that no change brings
abbrev pub KeyStays : Site → Bool → Terms → TermsKey → Type 0
KeyStays site with_file now key = (wanted : Terms) × AreTermsOf site with_file wanted × DiffersIn key now wanted

-- a text spells no accounts beside those of the site, or a key stays
abbrev pub IsNoChange : Site → AccountsText → Terms → SiteChangeFault → Type 0
IsNoChange site read now (change.Terms fault) = AreNoTerms site read fault
IsNoChange site read now (change.Stays key) = KeyStays site (is_some read.text) now key

-- the same where a text is read from a file, if one is named: the file is not read, or what was read is refused, or a key stays
abbrev pub IsNoChangeAt : Site → Bool → Terms → SiteChangeFault → Type 0
IsNoChangeAt site with_file now (change.Terms fault) = AreNoTermsAt site with_file fault
IsNoChangeAt site with_file now (change.Stays key) = KeyStays site with_file now key
