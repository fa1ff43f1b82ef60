use Rattle.std.proofs.lemmas.Int.{to_z-of_z}
use Rattle.book_lines.specs.Lines.{debit_text}
use Rattle.book_lines.proofs.charge.debit_text.Goals as goal

pub returns : goal.returns
unfolding debit_text
returns c = simp (to_z-of_z, c.ranges.debit) at c.format.ensures.ok
