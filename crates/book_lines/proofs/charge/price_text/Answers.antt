use Rattle.std.proofs.lemmas.Int.{to_z-of_z}
use Rattle.book_lines.specs.Lines.{price_text}
use Rattle.book_lines.proofs.charge.price_text.Goals as goal

pub returns : goal.returns
unfolding price_text
returns c = simp (to_z-of_z, c.ranges.digits, c.ranges.exponent) at c.format.ensures.ok
