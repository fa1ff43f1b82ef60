-- How a program ends by a fault of its book.
use Rattle.book_entries.specs.declared.refusal.RowRefusal.TheVariants as refusal
use Rattle.book_file.specs.declared.error.FileError.{FileError}
use Rattle.book_file.specs.declared.error.FileError.TheVariants as file
use Rattle.book_journal.specs.declared.error.JournalError.{JournalError}
use Rattle.book_journal.specs.declared.error.JournalError.TheVariants.{OtherAccount, OtherSession, TableUnread, Unread, Unwritten, Refused as RowRefused}
use Rattle.book_opening.specs.declared.fault.BookFault.{BookFault}
use Rattle.book_opening.specs.declared.fault.BookFault.TheVariants as book
use Rattle.book_store.specs.declared.error.AppendError.{AppendError}
use Rattle.book_store.specs.declared.error.AppendError.TheVariants as append
use Rattle.book_store.specs.declared.error.RowError.TheVariants as row
use Rattle.farm_command.specs.declared.status.Status.{Status}
use Rattle.farm_command.specs.declared.status.Status.TheVariants as status
use Rattle.sqlite_trees.specs.declared.error.StoreError.{StoreError}
use Rattle.sqlite_trees.specs.declared.error.StoreError.TheVariants as store

-- want of memory, a page that is not what was written, or a disk that has failed
abbrev pub status_of_store : StoreError → Status
status_of_store store.OutOfMemory = status.OutOfMemory
status_of_store store.Corrupt = status.Refused
status_of_store other = status.Failed

-- A file that is not there, is in use, or that the system does not read or write, has failed. One that is read, and is no book, is
-- refused.
abbrev pub status_of_file : FileError → Status
status_of_file file.Missing = status.Failed
status_of_file file.Busy = status.Failed
status_of_file (file.Io error) = status.Failed
status_of_file (file.Store error) = status_of_store error
status_of_file file.OutOfMemory = status.OutOfMemory
status_of_file other = status.Refused

-- rows that are not stored: the disk, or want of memory; or rows of other places
abbrev pub status_of_append : AppendError → Status
status_of_append (append.Store error) = status_of_store error
status_of_append append.NotBehind = status.Refused
status_of_append append.NoPlace = status.Refused

-- A row that is not read, or is not the one that the book gives to its entry. A table beside the rows that is not read, does not have
-- what the entries make of it, or is not written.
abbrev pub status_of_journal : JournalError → Status
status_of_journal (Unread place (row.Store error)) = status_of_store error
status_of_journal (Unread place row.Damaged) = status.Refused
status_of_journal (RowRefused place refusal.OutOfMemory) = status.OutOfMemory
status_of_journal (RowRefused place other) = status.Refused
status_of_journal (TableUnread (row.Store error)) = status_of_store error
status_of_journal (TableUnread row.Damaged) = status.Refused
status_of_journal (OtherAccount place) = status.Refused
status_of_journal (OtherSession place) = status.Refused
status_of_journal (Unwritten error) = status_of_append error

abbrev pub status_of_book : BookFault → Status
status_of_book (book.File error) = status_of_file error
status_of_book (book.OtherTerms key) = status.Refused
status_of_book (book.TermsDiffer difference) = status.Refused
status_of_book (book.NotChanged refusal) = status.Refused
status_of_book (book.NotStored error) = status_of_append error
status_of_book book.DamagedTerms = status.Refused
status_of_book (book.Row error) = status_of_journal error
status_of_book book.OutOfMemory = status.OutOfMemory
