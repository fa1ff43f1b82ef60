use Rattle.std.proofs.Common.{◌≡◌, ◌≤◌, ◌<◌, cond, length, get_or, Bool, true, false, Some, None, sym, ap, ◌∙◌, rules}
use Rattle.cc_book.specs.declared.account.Account.{Account}
use Rattle.cc_book.specs.Owners.{confirmed, has_digest}
use Rattle.cc_book.proofs.Owners.{passes_at-get, passes_at-past}
use Rattle.cc_book.proofs.accounts.confirmed.Goals as goal

pub returns-in_err-get : goal.returns-in_err-get
returns-in_err-get c =
    let told : c.args.told ≡ Some c.in_ok-place.place = search rules in
    let past : length c.args.accounts.now ≤ c.in_ok-place.place = search rules in
    c.from_residual-in_err-get.ensures
    ∙ sym (ap (confirmed (has_digest c.args.digest) c.args.accounts.now) told
    ∙ ap (λ (b : Bool). cond b (Some c.in_ok-place.place) None) (passes_at-past (has_digest c.args.digest) c.args.accounts.now c.in_ok-place.place past))

pub returns-then-has_digest : goal.returns-then-has_digest
returns-then-has_digest c =
    let told : c.args.told ≡ Some c.in_ok-place.place = search rules in
    let account : Account = c.in_ok-get.field-0.now in
    let has : has_digest c.args.digest account ≡ true = search rules in
    let within : c.in_ok-place.place < length c.args.accounts.now = search rules in
    let there : get_or c.args.accounts.now c.in_ok-place.place account ≡ account = search rules in
    sym (ap (confirmed (has_digest c.args.digest) c.args.accounts.now) told
    ∙ ap (λ (b : Bool). cond b (Some c.in_ok-place.place) None)
    (passes_at-get (has_digest c.args.digest) c.args.accounts.now c.in_ok-place.place account within ∙ ap (has_digest c.args.digest) there ∙ has))

pub returns-else-has_digest : goal.returns-else-has_digest
returns-else-has_digest c =
    let told : c.args.told ≡ Some c.in_ok-place.place = search rules in
    let account : Account = c.in_ok-get.field-0.now in
    let has : has_digest c.args.digest account ≡ false = search rules in
    let within : c.in_ok-place.place < length c.args.accounts.now = search rules in
    let there : get_or c.args.accounts.now c.in_ok-place.place account ≡ account = search rules in
    sym (ap (confirmed (has_digest c.args.digest) c.args.accounts.now) told
    ∙ ap (λ (b : Bool). cond b (Some c.in_ok-place.place) None)
    (passes_at-get (has_digest c.args.digest) c.args.accounts.now c.in_ok-place.place account within ∙ ap (has_digest c.args.digest) there ∙ has))
