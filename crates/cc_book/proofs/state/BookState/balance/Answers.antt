use Rattle.std.proofs.Common.{rules, ◌≡◌, ◌<◌, length, Bool, true, Some, None, ap, subst, sym, ◌^◌, ◌∙◌, arith, SFits}
use Rattle.std.specs.Prelude.{ℤ, pos, nat_abs, nat_lt, if◌then◌else◌}
use Rattle.std.specs.Int.{w128}
use Rattle.std.proofs.lemmas.Int.{to_z-of_z}
use Rattle.std.proofs.lemmas.List.{get_or_default}
use Rattle.cc_book.specs.AccountMachine.{terms_of}
use Rattle.cc_book.specs.Balance.{balance_of}
use Rattle.cc_book.specs.Taking.{Ledger}
use Rattle.cc_book.proofs.Books.{balance_of-is, small-balance}
use Rattle.cc_book.proofs.state.BookState.balance.Goals as goal

pub returns-then-account-len-clause-value : goal.returns-then-account-len-clause-value
returns-then-account-len-clause-value c =
    let there : c.args.account < length c.self.inside.standing.balances.items = omega (arith, c.if-account-len.true, c.len.ensures, c.self.inside.standing.balances.ok.0) in
    let within : c.args.account < length (terms_of c.self.inside.terms.begun c.self.inside.history.items).accounts = omega (arith, there, c.self.invariant.0.stands.accounts) in
    let item = c.index.ensures ∙ get_or_default c.self.inside.standing.balances.items c.args.account c.index.result.now (pos 0) there in
    let is = item ∙ balance_of-is c.self.inside.terms.begun c.self.inside.history.items c.self.invariant.0.stands c.args.account within
    ∙ ap (λ (l : Ledger). balance_of l.terms l.history c.args.account) c.self.view_is in
    let same : length (terms_of c.args.self.now.terms c.args.self.now.history).accounts ≡ length c.self.inside.standing.balances.items =
    sym (ap (λ (l : Ledger). length (terms_of l.terms l.history).accounts) c.self.view_is) ∙ sym c.self.invariant.0.stands.accounts in
    let test : nat_lt c.args.account (length (terms_of c.args.self.now.terms c.args.self.now.history).accounts) ≡ true = search rules in
    let fits : SFits w128 c.index.result.now = search rules in
    ap (λ (z : ℤ). Some z) (to_z-of_z w128 c.index.result.now fits ∙ is)
    ∙ sym (ap (λ (b : Bool). if b then Some (balance_of c.args.self.now.terms c.args.self.now.history c.args.account) else None) test)

pub returns-then-account-len-clause-small : goal.returns-then-account-len-clause-small
returns-then-account-len-clause-small c =
    let within : c.args.account < length c.self.inside.standing.balances.items =
    omega (arith, c.if-account-len.true, c.len.ensures, c.self.inside.standing.balances.ok.0) in
    let fits : SFits w128 c.index.result.now = search rules in
    subst (λ (z : ℤ). nat_abs z < 2 ^ 124) (sym (to_z-of_z w128 c.index.result.now fits ∙ c.index.ensures))
    (small-balance c.self.invariant.0 c.args.account c.index.result.now within)
