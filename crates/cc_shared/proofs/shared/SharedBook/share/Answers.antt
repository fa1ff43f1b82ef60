use Rattle.cc_shared.proofs.shared.SharedBook.share.Goals as goal

pub share_kept-requires-clause-kept : goal.share_kept-requires-clause-kept
share_kept-requires-clause-kept g c = c.in_memory-journal.ensures.kept c.args.book
