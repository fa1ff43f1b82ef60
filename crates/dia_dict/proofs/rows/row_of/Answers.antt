use Rattle.std.proofs.Common.{arith, sym}
use Rattle.dia_dict.proofs.Unlisted.{other_vendor}
use Rattle.dia_dict.proofs.rows.row_of.Goals as goal

pub returns-then-vendor-ne0 : goal.returns-then-vendor-ne0
returns-then-vendor-ne0 c = sym (other_vendor c.args.code.0 c.args.vendor (omega arith))
