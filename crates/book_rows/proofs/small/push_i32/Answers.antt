use Rattle.std.proofs.Common.{◌^◌}
use mir.Syntax.{w32}
use mir.Val.{SFits}
use Rattle.std.proofs.lemmas.Int.{to_z-of_z}
use Rattle.book_rows.proofs.TermsPartsWritten.{small_added}
use Rattle.book_rows.proofs.small.push_i32.Goals as goal

pub returns : goal.returns
returns c =
    let fits : SFits w32 c.args.value = c.ranges.value in
    small_added (2 ^ 31) c.args.value _ _ (simp to_z-of_z at c.in_ok-push_wide_i32.ensures.small) (simp to_z-of_z at c.in_ok-push_wide_i32.ensures.added)
