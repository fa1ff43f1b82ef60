-- What a task prints.
use Rattle.std.specs.Prelude.{◌≡◌, ℕ, Bool, List, [], ◌++◌, if◌then◌else◌}
use Rattle.book_copy.specs.declared.file.Copied.{Copied}
use Rattle.book_entries.specs.Replayed.{sum_in}
use Rattle.book_lines.specs.Lines.{difference_line, lines_of}
use Rattle.book_lines.specs.Summary.{made_line, summary_of}
use Rattle.book_opening.specs.declared.opening.StoredBook.{StoredBook}
use Rattle.book_opening.specs.Opened.{now_in}
use Rattle.book_terms.specs.Difference.{IsNeeded}
use Rattle.cc_book.specs.declared.terms.Terms.{Terms}
use Rattle.cc_book.specs.declared.terms_change.TermsChange.{TermsChange}
use Rattle.cc_book.specs.TermsChange.{says_nothing}
use Rattle.farm_base.specs.declared.site.Site.{Site}
use Rattle.farm_command.specs.declared.book_task.BookTask.{BookTask}
use Rattle.farm_command.specs.declared.book_task.BookTask.TheVariants as task
use Rattle.farm_terms.specs.SiteAccounts.{AreTermsOf}
use Rattle.farm_report.specs.Report.{report_of}

-- a book with the limit of a site, and with the sum of its history
pub record IsStoredFor (site : Site) (stored : StoredBook) : Type 0 where
  pub limit : stored.book.limit ≡ site.limit
  pub sum : stored.sum.0 ≡ sum_in stored.book

-- what a book comes to
abbrev pub summary_text : StoredBook → List ℕ
summary_text stored = summary_of stored.identity stored.book.history stored.sum stored.book.limit

-- which change leads to the terms of the site, where they do not hold
abbrev pub difference_text : TermsChange → List ℕ
difference_text change = if says_nothing change then [] else difference_line change

-- what a task prints of a book, and of the change that leads to the terms of the site
abbrev pub text_of : BookTask → StoredBook → TermsChange → List ℕ
text_of task.Create stored change = made_line stored.identity
text_of task.Check stored change = summary_text stored ++ difference_text change
text_of task.Report stored change = report_of stored.book
text_of task.Export stored change = lines_of stored.book.terms stored.book.history
text_of task.ChangeTerms stored change = summary_text stored
text_of (task.Backup to) stored change = summary_text stored

-- the book that was read again is the one that was copied
abbrev pub IsCopyOf : Copied → StoredBook → Type 0
IsCopyOf copied copy = (copy.identity ≡ copied.identity) × (copy.sum ≡ copied.sum)

-- the text is what a task prints of a book, from whose terms a change leads to those that the site wants, alone or with a file of accounts
pub record IsTold (site : Site) (with_file : Bool) (task : BookTask) (text : List ℕ) : Type 0 where
  pub wanted : Terms
  pub are_wanted : AreTermsOf site with_file wanted
  pub stored : StoredBook
  pub is_for : IsStoredFor site stored
  pub change : TermsChange
  pub leads : IsNeeded (now_in stored.book) wanted change
  pub says : text ≡ text_of task stored change
