use Rattle.std.proofs.Common.{◌≡◌, None, arith, ap, sym}
use Rattle.std.specs.Prelude.{option_map}
use Rattle.dia_dict.specs.Dictionary.{row_of}
use Rattle.dia_dict.proofs.Unlisted.{gap_from_1, gap_from_278, gap_from_432}
use Rattle.dia_dict.proofs.rows.name_of.Goals as goal

pub returns-in_default-0₀ : goal.returns-in_default-0₀
returns-in_default-0₀ c = let none : row_of c.args.code.0 0 ≡ None = search (arith, gap_from_1) in sym (ap (option_map (λ r. r.name)) none)

pub returns-in_default-0₀-2 : goal.returns-in_default-0₀-2
returns-in_default-0₀-2 c = let none : row_of c.args.code.0 0 ≡ None = search (arith, gap_from_278) in sym (ap (option_map (λ r. r.name)) none)

pub returns-in_default-0₀-4 : goal.returns-in_default-0₀-4
returns-in_default-0₀-4 c = let none : row_of c.args.code.0 0 ≡ None = search (arith, gap_from_432) in sym (ap (option_map (λ r. r.name)) none)
