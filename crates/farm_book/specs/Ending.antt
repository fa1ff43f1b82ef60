-- How the program ends by a fault.
use Rattle.book_copy.specs.declared.error.CopyError.TheVariants as rows
use Rattle.book_copy.specs.declared.error.CopyError.{CopyError}
use Rattle.book_copy.specs.declared.error.CopyFault.TheVariants as copy
use Rattle.book_copy.specs.declared.error.CopyFault.{CopyFault}
use Rattle.book_ending.specs.Ending.{status_of_append, status_of_book, status_of_file, status_of_store}
use Rattle.book_lines.specs.declared.fault.LinesFault.TheVariants as lines
use Rattle.book_place.specs.declared.FileKeyFault.TheVariants as key
use Rattle.book_store.specs.declared.error.CheckError.TheVariants as check
use Rattle.book_store.specs.declared.error.RowError.TheVariants as row
use Rattle.farm_book.specs.declared.fault.TaskFault.TheVariants as task
use Rattle.farm_book.specs.declared.fault.TaskFault.{TaskFault}
use Rattle.farm_command.specs.declared.status.Status.TheVariants as status
use Rattle.farm_command.specs.declared.status.Status.{Status}
use Rattle.farm_site.specs.declared.fault.SiteFault.TheVariants as site
use Rattle.farm_terms.specs.declared.fault.AccountsFault.TheVariants as accounts
use Rattle.farm_terms.specs.declared.opening.SiteTermsFault.TheVariants as terms

-- rows that are not copied: the disk, want of memory, or a row that is not the one that was written
abbrev pub status_of_rows : CopyError → Status
status_of_rows (rows.Check (check.Row (row.Store error))) = status_of_store error
status_of_rows (rows.Check (check.Row row.Damaged)) = status.Refused
status_of_rows (rows.Check (check.Wrong place)) = status.Refused
status_of_rows (rows.Read (row.Store error)) = status_of_store error
status_of_rows (rows.Read row.Damaged) = status.Refused
status_of_rows (rows.Append error) = status_of_append error
status_of_rows rows.OutOfMemory = status.OutOfMemory

-- something stands there already, or what befell a file or its rows
abbrev pub status_of_copy : CopyFault → Status
status_of_copy copy.Stands = status.Refused
status_of_copy (copy.Book error) = status_of_file error
status_of_copy (copy.Copy error) = status_of_file error
status_of_copy (copy.Rows error) = status_of_rows error
status_of_copy (copy.Io error) = status.Failed
status_of_copy copy.OutOfMemory = status.OutOfMemory

-- a file or a stream has failed, a refused site or book, want of memory
abbrev pub status_of : TaskFault → Status
status_of task.SiteFile = status.Failed
status_of (task.Site site.OutOfMemory) = status.OutOfMemory
status_of (task.Site other) = status.Refused
status_of (task.FileKey key.OutOfMemory) = status.OutOfMemory
status_of (task.FileKey other) = status.Refused
status_of (task.Terms terms.NotRead) = status.Failed
status_of (task.Terms terms.OutOfMemory) = status.OutOfMemory
status_of (task.Terms (terms.Accounts accounts.OutOfMemory)) = status.OutOfMemory
status_of (task.Terms (terms.Accounts other)) = status.Refused
status_of (task.NotMade fault) = status_of_book fault
status_of (task.NotRead fault) = status_of_book fault
status_of (task.NotChanged fault) = status_of_book fault
status_of (task.NotCopied fault) = status_of_copy fault
status_of (task.CopyNotRead fault) = status_of_book fault
status_of task.OtherCopy = status.Refused
status_of (task.Lines lines.OutOfMemory) = status.OutOfMemory
status_of (task.Lines other) = status.Refused
status_of task.Write = status.Failed
status_of task.OutOfMemory = status.OutOfMemory
