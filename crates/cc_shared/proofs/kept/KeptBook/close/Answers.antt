use Rattle.std.proofs.Common.{◌∙◌, rules}
use Rattle.cc_shared.specs.Sharing.{Stood}
use Rattle.cc_shared.proofs.Growing.{same_takes}
use Rattle.cc_shared.proofs.Histories.{replay_has_grown}
use Rattle.cc_shared.proofs.kept.KeptBook.close.Goals as goal

-- the seats have counted another number of takes than were made
pub returns-then-count_of-takes-clause-finished : goal.returns-then-count_of-takes-clause-finished
returns-then-count_of-takes-clause-finished g c =
    let i = c.self.invariant in
    let grown = replay_has_grown g.L.Sharing.shared.opened c.self.inside.book c.self.inside.seen c.self.inside.takes i.0 i.2 in
    let differ = c.if-count_of-takes.true in (
      record { count = c.self.inside.takes; grown = grown; legal = c.history-entries.ensures.legal },
      (λ other. differ (c.count_of.ensures.sum ∙ same_takes _ _ _ _ other grown)),
      (λ all. differ (c.count_of.ensures.whole all ∙ i.3)),
    )

pub returns-in-Err-clause-finished : goal.returns-in-Err-clause-finished
returns-in-Err-clause-finished g c =
    let i = c.self.invariant in
    record { count = c.self.inside.takes; grown = replay_has_grown g.L.Sharing.shared.opened c.self.inside.book c.self.inside.seen c.self.inside.takes i.0 i.2; legal = c.history-entries.ensures.legal }

pub returns-in-Ok-Some-clause-finished : goal.returns-in-Ok-Some-clause-finished
returns-in-Ok-Some-clause-finished g c =
    let i = c.self.invariant in
    let stood : Stood g.L.Sharing.shared.opened c.self.inside.book =
    record { count = c.self.inside.takes; grown = replay_has_grown g.L.Sharing.shared.opened c.self.inside.book c.self.inside.seen c.self.inside.takes i.0 i.2; legal = c.history-entries.ensures.legal } in
    (stood, search rules)
