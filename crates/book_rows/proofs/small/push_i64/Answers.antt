use Rattle.std.proofs.Common.{◌^◌}
use mir.Syntax.{w64}
use mir.Val.{SFits}
use Rattle.std.proofs.lemmas.Int.{to_z-of_z}
use Rattle.book_rows.proofs.TermsPartsWritten.{small_added}
use Rattle.book_rows.proofs.small.push_i64.Goals as goal

pub returns : goal.returns
returns c =
    let fits : SFits w64 c.args.value = c.ranges.value in
    small_added (2 ^ 63) c.args.value _ _ (simp to_z-of_z at c.in_ok-push_wide_i64.ensures.small) (simp to_z-of_z at c.in_ok-push_wide_i64.ensures.added)
