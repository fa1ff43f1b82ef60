use Rattle.std.proofs.Common.{◌≡◌, ◌≤◌, ◌<◌, cond, length, get_or, Bool, true, false, Some, None, sym, ap, ◌∙◌, rules}
use Rattle.cc_view.specs.declared.request.Subscription.{Subscription}
use Rattle.cc_book.specs.declared.account.Account.{Account}
use Rattle.cc_book.specs.TermsChange.{owns}
use Rattle.cc_book.specs.Owners.{confirmed}
use Rattle.cc_book.proofs.Owners.{passes_at-get, passes_at-past}
use Rattle.cc_book.proofs.accounts.confirmed_for.Goals as goal

pub returns-in_err-get : goal.returns-in_err-get
returns-in_err-get c =
    let id : Subscription = record { kind = c.args.owner.kind; text = c.args.owner.text.now } in
    let told : c.args.told ≡ Some c.in_ok-place.place = search rules in
    let past : length c.args.accounts.now ≤ c.in_ok-place.place = search rules in
    c.from_residual-in_err-get.ensures
    ∙ sym (ap (confirmed (owns id) c.args.accounts.now) told
    ∙ ap (λ (b : Bool). cond b (Some c.in_ok-place.place) None) (passes_at-past (owns id) c.args.accounts.now c.in_ok-place.place past))

pub returns-then-is_of : goal.returns-then-is_of
returns-then-is_of c =
    let id : Subscription = record { kind = c.args.owner.kind; text = c.args.owner.text.now } in
    let told : c.args.told ≡ Some c.in_ok-place.place = search rules in
    let account : Account = c.in_ok-get.field-0.now in
    let has : owns id account ≡ true = search rules in
    let within : c.in_ok-place.place < length c.args.accounts.now = search rules in
    let there : get_or c.args.accounts.now c.in_ok-place.place account ≡ account = search rules in
    sym (ap (confirmed (owns id) c.args.accounts.now) told
    ∙ ap (λ (b : Bool). cond b (Some c.in_ok-place.place) None)
    (passes_at-get (owns id) c.args.accounts.now c.in_ok-place.place account within ∙ ap (owns id) there ∙ has))

pub returns-else-is_of : goal.returns-else-is_of
returns-else-is_of c =
    let id : Subscription = record { kind = c.args.owner.kind; text = c.args.owner.text.now } in
    let told : c.args.told ≡ Some c.in_ok-place.place = search rules in
    let account : Account = c.in_ok-get.field-0.now in
    let has : owns id account ≡ false = search rules in
    let within : c.in_ok-place.place < length c.args.accounts.now = search rules in
    let there : get_or c.args.accounts.now c.in_ok-place.place account ≡ account = search rules in
    sym (ap (confirmed (owns id) c.args.accounts.now) told
    ∙ ap (λ (b : Bool). cond b (Some c.in_ok-place.place) None)
    (passes_at-get (owns id) c.args.accounts.now c.in_ok-place.place account within ∙ ap (owns id) there ∙ has))
