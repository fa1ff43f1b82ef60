use Rattle.std.proofs.Common.{◌≡◌, take}
use Rattle.book_lines.specs.Lines.{lines_of}
use Rattle.book_lines.proofs.entries.entry_lines.Given as goal

abbrev pub invariant-loop-entry : goal.invariant-loop-entry
invariant-loop-entry l =
    (l.book.terms ≡ l.fn.empty.terms) × (l.book.history ≡ take l.entry-index l.history)
    × (l.out.items ≡ lines_of l.fn.empty.terms (take l.entry-index l.history))
