use Rattle.std.proofs.Common.{◌≡◌, ap, ◌∙◌, rules}
use Rattle.std.specs.Prelude.{is_some}
use Rattle.cc_book.specs.TermsChange.{account_with}
use Rattle.cc_book.proofs.Owners.{any-owner}
use Rattle.cc_book.proofs.accounts.Accounts.has_owner_of.Goals as goal

pub returns : goal.returns
returns c =
    let account = c.args.account.now in
    let kind : c.owner.result.kind ≡ account.id_kind = search rules in
    let text : c.owner.result.text.now ≡ account.id = search rules in
    c.is_some.ensures
    ∙ ap is_some (c.place_of.ensures.value ∙ (λ i. account_with c.args.self.now (record { kind = kind i; text = text i })))
    ∙ any-owner account c.args.self.now
