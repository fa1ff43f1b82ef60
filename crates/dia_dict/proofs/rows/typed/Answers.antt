use Rattle.std.proofs.Common.{◌≡◌, None, refl, arith}
use Rattle.dia_dict.specs.Dictionary.{row_of}
use Rattle.dia_dict.proofs.Unlisted.{other_vendor}
use Rattle.dia_dict.proofs.rows.typed.Goals as goal

pub returns-then-avp-ne0 : goal.returns-then-avp-ne0
returns-then-avp-ne0 c = let none : row_of c.args.avp.now.code c.args.avp.now.vendor ≡ None = other_vendor c.args.avp.now.code c.args.avp.now.vendor (omega arith) in rw none refl
