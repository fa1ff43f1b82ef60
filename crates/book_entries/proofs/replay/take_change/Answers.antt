use Rattle.std.proofs.Common.{ap, length, List}
use Rattle.book_rows.specs.declared.row.Sum.{Sum}
use Rattle.cc_book.specs.declared.entry.Entry.{Entry}
use Rattle.book_entries.proofs.Pushed.{changed_again}
use Rattle.book_entries.proofs.replay.take_change.Goals as goal

pub returns-clause-taken : goal.returns-clause-taken
returns-clause-taken c =
    changed_again c.args.book.now c.change_terms.new.self c.args.moment c.args.change c.in_ok-row.row c.args.octets.now c.in_ok-sum.sum.0 c.in_ok-change_terms.ensures.after
    (c.in_ok-row.ensures.rows c.args.book.now (ap (λ (h : List Entry). length h) c.history.ensures.entries) c.requires) c.in_ok-sum.ensures.0 (ap (λ (s : Sum). s.0) c.in_ok-sum.ensures.1)
