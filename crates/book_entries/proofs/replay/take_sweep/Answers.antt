use Rattle.std.proofs.Common.{ap, arith, length, List}
use Rattle.book_rows.specs.declared.row.Sum.{Sum}
use Rattle.cc_book.specs.declared.entry.Entry.{Entry}
use Rattle.book_entries.proofs.Pushed.{swept_again}
use Rattle.book_entries.proofs.replay.take_sweep.Goals as goal

pub returns-clause-taken : goal.returns-clause-taken
returns-clause-taken c =
    swept_again c.args.book.now c.sweep.new.self c.args.moment c.in_ok-ended.ended c.in_ok-row.row c.args.octets.now c.in_ok-sum.sum.0 c.in_ok-ended.ensures.after (λ e. omega arith)
    (c.in_ok-row.ensures.rows c.args.book.now (ap (λ (h : List Entry). length h) c.history.ensures.entries) c.requires) c.in_ok-sum.ensures.0 (ap (λ (s : Sum). s.0) c.in_ok-sum.ensures.1)
