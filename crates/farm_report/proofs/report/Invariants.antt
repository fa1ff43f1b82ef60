-- The text so far, with the lines of the accounts that are left, is the report.
use Rattle.std.proofs.Common.{◌≡◌, ◌++◌, drop, string_bytes}
use Rattle.std.specs.List.{flat_map, enumerate_from}
use Rattle.cc_book.specs.AccountMachine.{terms_of}
use Rattle.farm_report.specs.Report.{report_of, line_of}
use Rattle.farm_report.proofs.report.Given as goal

abbrev pub invariant-loop-place : goal.invariant-loop-place
invariant-loop-place l = string_bytes l.text ++ flat_map (line_of l.book) (enumerate_from l.place (drop l.place (terms_of l.book.terms l.book.history).accounts)) ≡ report_of l.book
