use Rattle.std.proofs.Common.{sym, ◌∙◌, ap}
use Rattle.cc_shared.proofs.Adding.{adds_moves}
use Rattle.cc_shared.proofs.history.Beginning.add.Goals as goal

pub compare_exchange-found-requires : goal.compare_exchange-found-requires
compare_exchange-found-requires g c =
    let h = c.args.word.now.word_is in
    let pen = c.no_pen-pen.ensures in (
      ap (λ w. w.tracked) h,
      c.self.invariant.2 ∙ sym (ap (λ w. w.book) h),
      pen.0 ∙ (c.self.invariant.2 ∙ sym (ap (λ w. w.book) h)),
      c.requires.names ∙ sym c.self.invariant.1,
      rw (ap (λ w. w.key) h, pen.1, c.requires.state) (adds_moves c.self.inside.seen.log c.args.offer.now.ask c.self.inside.count (sym c.self.invariant.0)),
    )
