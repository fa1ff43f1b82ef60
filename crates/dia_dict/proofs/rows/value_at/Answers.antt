use Rattle.std.proofs.Common.{◌≡◌, None, refl, arith}
use Rattle.dia_dict.specs.Dictionary.{row_of}
use Rattle.dia_dict.proofs.Unlisted.{gap_from_1, gap_from_278, gap_from_432}
use Rattle.dia_dict.proofs.rows.value_at.Goals as goal

pub returns-in_default-code : goal.returns-in_default-code
returns-in_default-code c = let none : row_of c.args.code 0 ≡ None = search (arith, gap_from_1) in rw none refl

pub returns-in_default-code-2 : goal.returns-in_default-code-2
returns-in_default-code-2 c = let none : row_of c.args.code 0 ≡ None = search (arith, gap_from_278) in rw none refl

pub returns-in_default-code-4 : goal.returns-in_default-code-4
returns-in_default-code-4 c = let none : row_of c.args.code 0 ≡ None = search (arith, gap_from_432) in rw none refl
