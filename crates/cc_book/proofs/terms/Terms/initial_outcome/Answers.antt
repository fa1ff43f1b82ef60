use Rattle.std.proofs.Common.{◌≡◌, ℕ, List, Option, Result, Ok, Err, subst, sym, ap, ◌∙◌, rules}
use Rattle.std.specs.Prelude.{IfOk}
use Rattle.cc_view.specs.declared.code.ResultCode.TheVariants.{UnableToComply}
use Rattle.cc_book.specs.declared.outcome.Change.TheVariants.{GoesOn}
use Rattle.cc_book.specs.declared.session.Hold.{Hold}
use Rattle.cc_book.specs.declared.session.OpenSession.{OpenSession}
use Rattle.cc_book.specs.AccountMachine.{account_of}
use Rattle.cc_book.specs.Standing.{IsOutcome, prolonged}
use Rattle.cc_book.proofs.ByKind.{initial-open, initial-unknown, refused-outcome}
use Rattle.cc_book.proofs.terms.Terms.initial_outcome.Goals as goal

pub returns-in_ok-session-in-Some-default : goal.returns-in_ok-session-in-Some-default
returns-in_ok-session-in-Some-default g c = λ before is stands.
    let session = c.in-Some-default.session.now in
    let holds : c.from_vec.result ≡ session.holds = search rules in
    let next : c.in_ok-session-in-Some-default.session ≡ prolonged session c.args.moment session.holds session.prices =
    c.in_ok-session-in-Some-default.ensures
    ∙ ap (λ (hs : List Hold). prolonged session c.args.moment hs c.in_ok-prices-in-Some-default.prices) holds
    ∙ ap (prolonged session c.args.moment session.holds) c.in_ok-prices-in-Some-default.ensures in
    let outcome : c.refused.result ≡ refused-outcome (account_of c.args.self.now c.args.request.now.subscriptions) UnableToComply
    (GoesOn c.in-Some-default.place (prolonged session c.args.moment session.holds session.prices)) =
    c.refused.ensures
    ∙ ap (λ (a : Option ℕ). refused-outcome a UnableToComply (GoesOn c.in-Some-default.place c.in_ok-session-in-Some-default.session))
    c.requires.account
    ∙ ap (λ (s : OpenSession). refused-outcome (account_of c.args.self.now c.args.request.now.subscriptions) UnableToComply
    (GoesOn c.in-Some-default.place s)) next in
    subst (IsOutcome c.args.self.now before (g.S.Lookup.sessions c.args.standing.now) c.args.moment c.args.request.now) (sym outcome)
    (initial-open c.args.request.now c.args.moment stands c.in-Some-default.place session is c.in-Some-default.ensures.at c.in-Some-default.ensures.there)

pub returns-in-None-None : goal.returns-in-None-None
returns-in-None-None g c = λ before is stands.
    subst (IsOutcome c.args.self.now before (g.S.Lookup.sessions c.args.standing.now) c.args.moment c.args.request.now) (sym c.refused-in-None-None.ensures)
    (initial-unknown c.args.request.now c.args.moment stands is c.in-None-None.ensures (sym c.requires.account ∙ c.in-None-None.is-1))

-- what is so of each value where it is Ok
ok_so : {X E : Type 0} (P Q : X → Type 0) (result : Result X E) → ((x : X) → P x → Q x) → IfOk result P → IfOk result Q
ok_so P Q (Ok x) so ok = so x ok
ok_so P Q (Err e) so ok = tt

pub returns-in-None-Some : goal.returns-in-None-Some
returns-in-None-Some g c = ok_so _ _ c.opening_outcome.result (λ outcome does before is stands. does before is c.in-None-Some.ensures stands)
    c.opening_outcome.ensures
