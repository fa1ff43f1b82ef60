use Rattle.std.proofs.lemmas.Int.{to_z-of_z}
use Rattle.book_lines.specs.Lines.{opening_text}
use Rattle.book_lines.proofs.change.opening_text.Goals as goal

pub returns : goal.returns
unfolding opening_text
returns c = simp (to_z-of_z, c.ranges.opening) at c.format.ensures.ok
