use Rattle.std.proofs.Common.{◌≡◌, ◌<◌, Option, ℕ, None, true, length, IfSome, sym, subst, ◌∙◌, rules}
use Rattle.std.specs.Prelude.{is_some}
use Rattle.std.specs.List.{position}
use Rattle.cc_view.specs.declared.request.Subscription.{Subscription}
use Rattle.cc_book.specs.TermsChange.{owns}
use Rattle.cc_book.specs.Owners.{confirmed, digest_of, has_digest}
use Rattle.cc_book.proofs.Owners.{confirmed-within, first-own, no-digest}
use Rattle.cc_book.proofs.accounts.indexed_place.Goals as goal

pub returns-then-is_some-clause-value : goal.returns-then-is_some-clause-value
returns-then-is_some-clause-value c =
    let id : Subscription = record { kind = c.args.owner.kind; text = c.args.owner.text.now } in
    let finds : confirmed (has_digest (digest_of id)) c.args.accounts.now c.copied-told.result ≡ position (has_digest (digest_of id)) c.args.accounts.now = search rules in
    let some : is_some (confirmed (owns id) c.args.accounts.now c.copied-told.result) ≡ true = search rules in
    c.confirmed_for-own.ensures ∙ first-own id c.args.accounts.now c.copied-told.result finds some

pub returns-then-is_some-clause-within : goal.returns-then-is_some-clause-within
returns-then-is_some-clause-within c =
    let id : Subscription = record { kind = c.args.owner.kind; text = c.args.owner.text.now } in
    subst (λ (found : Option ℕ). IfSome found (λ (place : ℕ). place < length c.args.accounts.now)) (sym c.confirmed_for-own.ensures)
    (confirmed-within (owns id) c.args.accounts.now c.copied-told.result)

pub returns-in_err-_other-clause-value : goal.returns-in_err-_other-clause-value
returns-in_err-_other-clause-value c =
    let id : Subscription = record { kind = c.args.owner.kind; text = c.args.owner.text.now } in
    let none : ◌≡◌ {A = Option ℕ} (position (has_digest (digest_of id)) c.args.accounts.now) None = search rules in
    c.from_residual.ensures ∙ sym (no-digest id c.args.accounts.now none)
