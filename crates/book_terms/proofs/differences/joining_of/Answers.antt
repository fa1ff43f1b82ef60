use Rattle.std.proofs.Common.{◌<◌, length, arith, inr, refl, sym, ap, ◌∙◌}
use Rattle.book_terms.specs.Difference.{has_other_opening}
use Rattle.book_terms.proofs.Looking.{first_at}
use Rattle.book_terms.proofs.differences.joining_of.Goals as goal

pub returns-in-OtherOpening-clause-stays : goal.returns-in-OtherOpening-clause-stays
returns-in-OtherOpening-clause-stays c =
    let test = has_other_opening c.args.there.now in
    let below : c.loop-place.place < length c.args.wanted.now = omega arith in
    inr (
      c.loop-place.place,
      refl,
      first_at test c.args.wanted.now c.loop-place.place c.index-wanted-place.result below c.loop-place.invariant.1 (ap test (sym c.index-wanted-place.is) ∙ c.in-OtherOpening.ensures),
    )
