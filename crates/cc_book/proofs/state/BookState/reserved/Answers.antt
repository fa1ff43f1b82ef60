use Rattle.std.proofs.Common.{rules, ◌≡◌, ℕ, ◌<◌, length, Bool, true, ◌^◌, Some, None, ap, sym, ◌∙◌, arith}
use Rattle.std.specs.Prelude.{ℤ, pos, nat_lt, if◌then◌else◌}
use Rattle.std.specs.Int.{w128}
use Rattle.std.proofs.lemmas.Int.{to_z_pos}
use Rattle.cc_book.specs.AccountMachine.{terms_of}
use Rattle.cc_book.specs.Balance.{reserved_of}
use Rattle.cc_book.specs.Taking.{Ledger}
use Rattle.cc_book.proofs.Books.{reserved_of-is, small-book}
use Rattle.cc_book.proofs.state.BookState.reserved.Goals as goal

pub overflow_cast-result : goal.overflow_cast-result
overflow_cast-result c =
    let most = (small-book c.self.invariant.0).held c.args.account in
    let small : c.reserved.result < 2 ^ 127 = omega (arith, c.reserved.ensures) in
    search rules

pub returns-then-account-len : goal.returns-then-account-len
returns-then-account-len c =
    let most = (small-book c.self.invariant.0).held c.args.account in
    let small : c.reserved.result < 2 ^ 127 = omega (arith, c.reserved.ensures) in
    let is = c.reserved.ensures ∙ sym (reserved_of-is c.self.inside.terms.begun c.self.inside.history.items c.self.invariant.0.stands c.args.account)
    ∙ ap (λ (l : Ledger). reserved_of l.terms l.history c.args.account) c.self.view_is in
    let same : length (terms_of c.args.self.now.terms c.args.self.now.history).accounts ≡ length c.self.inside.standing.balances.items =
    sym (ap (λ (l : Ledger). length (terms_of l.terms l.history).accounts) c.self.view_is) ∙ sym c.self.invariant.0.stands.accounts in
    let test : nat_lt c.args.account (length (terms_of c.args.self.now.terms c.args.self.now.history).accounts) ≡ true = search rules in
    ap (λ (z : ℤ). Some z) (to_z_pos w128 c.reserved.result small ∙ ap (λ (n : ℕ). pos n) is)
    ∙ sym (ap (λ (b : Bool). if b then Some (pos (reserved_of c.args.self.now.terms c.args.self.now.history c.args.account)) else None) test)
