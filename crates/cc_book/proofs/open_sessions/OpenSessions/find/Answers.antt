use Rattle.std.proofs.Common.{◌≡◌, None, List, subst, sym, ap, ◌∙◌}
use Rattle.std.specs.Prelude.{MatchOption}
use Rattle.indexmap.specs.IndexMap.{values}
use Rattle.cc_book.specs.declared.session.OpenSession.{OpenSession}
use Rattle.cc_book.specs.OpenSessions.{Sessions}
use Rattle.cc_book.specs.Standing.{IsOpenAt, place_in}
use Rattle.cc_book.proofs.KeptSessions.{place-same, values-at}
use Rattle.cc_book.proofs.open_sessions.OpenSessions.find.Goals as goal

pub returns-in_err-place : goal.returns-in_err-place
returns-in_err-place c =
    let items : values c.self.inside.sessions ≡ c.args.self.now.items = ap (λ (s : Sessions). s.items) c.self.view_is in
    let none : place_in c.args.self.now.items c.args.id.now ≡ None =
    ap (λ (ss : List OpenSession). place_in ss c.args.id.now) (sym items) ∙ sym (place-same c.args.id.now c.self.inside.sessions.entries c.self.invariant.0.own)
    ∙ sym c.in_err-place.ensures.index in
    subst (λ found. MatchOption found (place_in c.args.self.now.items c.args.id.now ≡ None)
    (λ at. IsOpenAt c.args.self.now.items c.args.id.now at.0 at.1.now)) (sym c.from_residual.ensures) none

pub returns : goal.returns
returns c =
    let items : values c.self.inside.sessions ≡ c.args.self.now.items = ap (λ (s : Sessions). s.items) c.self.view_is in
    subst (λ (ss : List OpenSession). IsOpenAt ss c.args.id.now c.in_ok-place.place c.in_ok-place.session.now) items
    (record {
      at = sym (place-same c.args.id.now c.self.inside.sessions.entries c.self.invariant.0.own) ∙ sym c.in_ok-place.ensures.index;
      there = values-at c.self.inside.sessions.entries c.in_ok-place.place (c.in_ok-place._id.now, c.in_ok-place.session.now) c.in_ok-place.ensures.entry;
    })
