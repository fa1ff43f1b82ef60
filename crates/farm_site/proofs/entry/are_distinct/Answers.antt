use Rattle.std.proofs.Common.{sym}
use Rattle.farm_site.proofs.Elements.{number_more, number_twice}
use Rattle.farm_site.proofs.entry.are_distinct.Goals as goal

pub returns-then-contains : goal.returns-then-contains
returns-then-contains c = sym (number_twice c.args.numbers.now c.loop-place.place 0 c.loop-place-test.true (sym c.if-contains.ensures.value))

pub loop-place-preserved : goal.loop-place-preserved
loop-place-preserved c = number_more c.args.numbers.now c.loop-place.place 0 c.loop-place-test.true c.loop-place.invariant (sym c.if-contains.ensures.value)
