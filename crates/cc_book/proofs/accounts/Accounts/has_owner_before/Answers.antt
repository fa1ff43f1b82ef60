use Rattle.std.proofs.Common.{◌≡◌, ℕ, Option, Some, None, sym, ◌∙◌, rules}
use Rattle.cc_book.specs.TermsChange.{account_with}
use Rattle.cc_book.specs.Owners.{owner_of}
use Rattle.cc_book.proofs.Owners.{owner-before}
use Rattle.cc_book.proofs.accounts.Accounts.has_owner_before.Goals as goal

pub returns-in-Some : goal.returns-in-Some
returns-in-Some c =
    let account = c.args.account.now in
    let kind : c.owner.result.kind ≡ account.id_kind = search rules in
    let text : c.owner.result.text.now ≡ account.id = search rules in
    let found : account_with c.args.self.now (owner_of account) ≡ Some c.in-Some.first =
    sym (c.place_of.ensures.value ∙ (λ i. account_with c.args.self.now (record { kind = kind i; text = text i }))) ∙ c.in-Some.is in
    sym (owner-before account c.args.self.now c.args.place (Some c.in-Some.first) found)

pub returns-in-None : goal.returns-in-None
returns-in-None c =
    let account = c.args.account.now in
    let kind : c.owner.result.kind ≡ account.id_kind = search rules in
    let text : c.owner.result.text.now ≡ account.id = search rules in
    let found : ◌≡◌ {A = Option ℕ} (account_with c.args.self.now (owner_of account)) None =
    sym (c.place_of.ensures.value ∙ (λ i. account_with c.args.self.now (record { kind = kind i; text = text i }))) ∙ c.in-None.is in
    sym (owner-before account c.args.self.now c.args.place None found)
