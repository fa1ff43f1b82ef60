use Rattle.std.proofs.Common.{rules}
use mir.Syntax.{w64}
use mir.Val.{SFits}
use Rattle.std.proofs.lemmas.Int.{to_z-of_z}
use Rattle.book_rows.proofs.TermsPartsWritten.{account_added}
use Rattle.book_rows.proofs.accounts.push_account.Goals as goal

pub returns : goal.returns
returns c =
    let fits : SFits w64 c.args.value.now.opening = search rules in
    account_added c.args.value.now c.in_ok-push_u32.ensures c.in_ok-push_octets.ensures (simp to_z-of_z at c.in_ok-push_i64.ensures)
