use Rattle.std.proofs.Common.{◌≡◌, Some, None, inl, inr, refl, ◌∙◌}
use Rattle.cc_view.specs.declared.request.RequestKind.TheVariants.{Update, Termination}
use Rattle.cc_book.specs.AccountMachine.{charged_account}
use Rattle.cc_book.proofs.Amounts.{account-at}
use Rattle.cc_book.proofs.ByKind.{charged-closed, charged-open}
use Rattle.cc_book.proofs.terms.Terms.charged_account.Goals as goal

pub returns-in_err-_place-in-Update-clause-charged : goal.returns-in_err-_place-in-Update-clause-charged
returns-in_err-_place-in-Update-clause-charged g c = λ before stands. c.from_residual.ensures
    ∙ elim c.in-Update.is as (λ _. None ≡ charged_account c.args.self.now before c.args.request.now) [
      | inl is ↦ charged-closed c.args.request.now (record { 0 = 0 }) stands Update is c.in_err-_place-in-Update.ensures refl
      | inr is ↦ charged-closed c.args.request.now (record { 0 = 0 }) stands Termination is c.in_err-_place-in-Update.ensures refl
    ]

pub returns-in_ok-_place-in-Update-clause-charged : goal.returns-in_ok-_place-in-Update-clause-charged
returns-in_ok-_place-in-Update-clause-charged g c = λ before stands.
    let there = c.in_ok-_place-in-Update.ensures in
    let session = c.in_ok-_place-in-Update.session.now in
    elim c.in-Update.is as (λ _. Some session.account ≡ charged_account c.args.self.now before c.args.request.now) [
      | inl is ↦ charged-open c.args.request.now (record { 0 = 0 }) stands Update c.in_ok-_place-in-Update._place session is there.at there.there refl
      | inr is ↦ charged-open c.args.request.now (record { 0 = 0 }) stands Termination c.in_ok-_place-in-Update._place session is there.at there.there refl
    ]

pub returns-in_ok-_place-in-Update-clause-named : goal.returns-in_ok-_place-in-Update-clause-named
returns-in_ok-_place-in-Update-clause-named g c =
    let there = c.in_ok-_place-in-Update.ensures in
    let session = c.in_ok-_place-in-Update.session.now in
    record {
      within = account-at _ (g.S.Lookup.sessions c.args.standing.now) c.in_ok-_place-in-Update._place session there.there c.requires.known;
      initial = λ is. absurd (elim c.in-Update.is as (λ _. ⊥) [
        | inl other ↦ cc
        | inr other ↦ cc
      ]);
      event = λ is. absurd (elim c.in-Update.is as (λ _. ⊥) [
        | inl other ↦ cc
        | inr other ↦ cc
      ]);
    }
