use Rattle.std.proofs.Common.{refl}
use Rattle.std.specs.Cmp.Lexicographic.{pointwise}
use Rattle.std.specs.Prelude.{nat_eq}
use Rattle.std.proofs.lemmas.Bool.Decides.{Decides-eqb}
use Rattle.std.proofs.lemmas.Slice.Eq.{slice_eq-Decides}
use Rattle.dia_base.specs.Folding.{folded_of}
use Rattle.dia_base.proofs.laws.equal_without_case.Goals as goal

pub returns : goal.returns
returns c = λ a b. slice_eq-Decides Decides-eqb (folded_of a) (folded_of b) (pointwise nat_eq (folded_of a) (folded_of b)) refl
