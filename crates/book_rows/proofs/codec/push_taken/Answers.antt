use Rattle.std.proofs.Common.{rules}
use mir.Syntax.{w128}
use mir.Val.{SFits}
use Rattle.std.proofs.lemmas.Int.{to_z-of_z}
use Rattle.book_rows.proofs.RowWritten.{taken_added}
use Rattle.book_rows.proofs.codec.push_taken.Goals as goal

pub returns : goal.returns
returns c =
    let fits : SFits w128 c.args.value.now.debit = search rules in
    taken_added c.args.value.now c.in_ok-push_request.ensures c.in_ok-push_reply.ensures (simp to_z-of_z at c.in_ok-push_signed.ensures)
