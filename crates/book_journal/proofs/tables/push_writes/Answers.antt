use Rattle.book_beside.specs.Beside.{written_all}
use Rattle.book_journal.proofs.Renewing.{all_renewed, push_renewed, renewed_none}
use Rattle.book_journal.proofs.tables.push_writes.Goals as goal

pub loop-place-init : goal.loop-place-init
loop-place-init c = λ beside. renewed_none c.args.side c.args.book.now (written_all beside c.args.writes.now.items)

pub loop-place-preserved : goal.loop-place-preserved
loop-place-preserved c = λ beside.
    push_renewed c.args.side c.args.book.now c.args.places.now c.loop-place.place-index _ c.loop-place.writes.items c.push.new.self.items c.write_of.result _ (written_all beside c.args.writes.now.items) beside
    c.loop-place-test.true c.in_ok-push.ensures.items c.in_ok-octets.ensures c.write_of.ensures (c.loop-place.invariant beside)

pub returns : goal.returns
returns c = λ beside.
    all_renewed c.args.side c.args.book.now c.args.places.now c.loop-place.place-index (written_all beside c.args.writes.now.items) (written_all beside c.loop-place.writes.items) c.loop-place-test.false (c.loop-place.invariant beside)
