use Rattle.std.proofs.Common.{rules}
use mir.Syntax.{w32, w64}
use mir.Val.{SFits}
use Rattle.std.proofs.lemmas.Int.{to_z-of_z}
use Rattle.book_rows.proofs.ReplyWritten.{cost_added}
use Rattle.book_rows.proofs.reply.push_cost.Goals as goal

pub returns : goal.returns
returns c =
    let digits : SFits w64 c.args.value.digits = search rules in
    let exponent : SFits w32 c.args.value.exponent = search rules in
    cost_added c.args.value (simp to_z-of_z at c.in_ok-push_digits.ensures.small) (simp to_z-of_z at c.in_ok-push_exponent.ensures.small) (simp to_z-of_z at c.in_ok-push_digits.ensures.added) (simp to_z-of_z at c.in_ok-push_exponent.ensures.added) c.in_ok-push_u32.ensures
