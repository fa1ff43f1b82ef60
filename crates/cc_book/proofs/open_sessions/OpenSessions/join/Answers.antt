use Rattle.std.proofs.Common.{◌^◌, List, ℕ, Vec, Global, sym, subst, ap, ◌∙◌}
use Rattle.cc_book.specs.declared.session.OpenSession.{OpenSession}
use Rattle.indexmap.specs.IndexMap.{values}
use Rattle.dia_base.specs.declared.number.Moment.{Moment}
use Rattle.cc_book.specs.OpenSessions.{IsKept, lasts_of}
use Rattle.std.specs.Prelude.{◌%◌}
use Rattle.cc_book.specs.Standing.{held_by_all}
use Rattle.cc_book.proofs.Totals.{kept-more}
use Rattle.cc_book.proofs.open_sessions.OpenSessions.join.Goals as goal

pub invariant_of-self : goal.invariant_of-self
invariant_of-self c =
    let kept = c.loop-account.invariant in (
      subst (λ (entries : List (List ℕ × OpenSession)). IsKept entries c.loop-account.self-inside.totals.items) (sym (ap (λ sessions. sessions.entries) kept.sessions))
          (subst (λ (totals : List ℕ). IsKept c.self.inside.sessions.entries totals) (sym kept.items)
          (kept-more c.self.inside.sessions.entries c.self.inside.totals.items c.loop-account._account c.self.invariant.0)),
      ap (λ (v : Vec Moment Global). v.items) kept.lasts ∙ c.self.invariant.1 ∙ ap (λ sessions. lasts_of (values sessions)) (sym kept.sessions),
      kept.held ∙ c.self.invariant.2 ∙ ap (λ sessions. held_by_all (values sessions) % 2 ^ 128) (sym kept.sessions),
    )
