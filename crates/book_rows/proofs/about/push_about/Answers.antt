use Rattle.book_rows.proofs.AboutExact.{about_added}
use Rattle.book_rows.proofs.about.push_about.Goals as goal

pub returns : goal.returns
returns c = about_added c.args.value.now c.in_ok-push_u32.ensures c.in_ok-push_u128.ensures c.in_ok-push_octets.ensures
