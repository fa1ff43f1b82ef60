-- Rows that are read as entries again.
use Rattle.std.specs.Prelude.{List, map}
use Rattle.dia_base.specs.declared.number.Moment.{Moment}
use Rattle.book_rows.specs.declared.row.Row.{Row}
use Rattle.book_rows.specs.declared.row.Step.{Step}
use Rattle.book_rows.specs.declared.row.Step.TheVariants as steps
use Rattle.cc_book.specs.declared.entry.Entry.{Entry}
use Rattle.cc_book.specs.declared.entry.Entry.TheVariants.{Take, Sweep, ChangeTerms}

abbrev pub entry_by : Moment → Step → Entry
entry_by moment (steps.Take taken) = Take moment taken.request
entry_by moment steps.Sweep = Sweep moment
entry_by moment (steps.ChangeTerms change) = ChangeTerms moment change

-- the entry that a row tells
abbrev pub entry_of : Row → Entry
entry_of row = entry_by row.moment row.step

-- the history that rows tell
abbrev pub history_of : List Row → List Entry
history_of rows = map entry_of rows
