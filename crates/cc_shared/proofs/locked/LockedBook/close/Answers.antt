use Rattle.cc_shared.proofs.Histories.{is_whole}
use Rattle.cc_shared.proofs.locked.LockedBook.close.Goals as goal

pub returns-in-Ok-clause-whole : goal.returns-in-Ok-clause-whole
returns-in-Ok-clause-whole g c =
    is_whole g.L.Sharing.shared c.in-Ok.book c.in-Some.seen.book c.in-Some.open c.in-Some.seen.log c.in-Some.ensures.0 c.in-Some.ensures.1 c.in-Ok.ensures.book
