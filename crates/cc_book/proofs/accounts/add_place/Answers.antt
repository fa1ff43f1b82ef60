use Rattle.std.proofs.Common.{◌≡◌, ℕ, cond, length, true, false, Some, rules}
use Rattle.std.specs.Prelude.{is_some, nat_eq}
use Rattle.indexmap.specs.IndexMap.{get}
use Rattle.cc_book.specs.Owners.{confirmed, digest_of, has_digest, owner_of}
use Rattle.cc_book.proofs.Owners.{finds-known, finds-new, finds-still}
use Rattle.cc_book.proofs.accounts.add_place.Goals as goal

pub returns-else-is_none-clause-ok : goal.returns-else-is_none-clause-ok
returns-else-is_none-clause-ok c = λ finds.
    let account = c.args.account.now in
    let digest : c.digest-digest.result ≡ digest_of (owner_of account) = search rules in
    let known : is_some (confirmed (has_digest (digest_of (owner_of account))) c.args.accounts.now (get nat_eq c.args.firsts.now (digest_of (owner_of account)))) ≡ true = search rules in
    finds-known c.args.accounts.now c.args.firsts.now finds account known

pub returns-in_ok-insert-clause-ok : goal.returns-in_ok-insert-clause-ok
returns-in_ok-insert-clause-ok c = λ finds.
    let account = c.args.account.now in
    let none : is_some (confirmed (has_digest (digest_of (owner_of account))) c.args.accounts.now (get nat_eq c.args.firsts.now (digest_of (owner_of account)))) ≡ false = search rules in
    let updated : (digest : ℕ) → get nat_eq c.insert.new.self digest
    ≡ cond (nat_eq (digest_of (owner_of account)) digest) (Some (length c.args.accounts.now)) (get nat_eq c.args.firsts.now digest) = search rules in
    finds-new c.args.accounts.now c.args.firsts.now finds account c.insert.new.self none updated

pub returns-in_ok-insert-clause-always : goal.returns-in_ok-insert-clause-always
returns-in_ok-insert-clause-always c = λ finds.
    let account = c.args.account.now in
    let none : is_some (confirmed (has_digest (digest_of (owner_of account))) c.args.accounts.now (get nat_eq c.args.firsts.now (digest_of (owner_of account)))) ≡ false = search rules in
    let updated : (digest : ℕ) → get nat_eq c.insert.new.self digest
    ≡ cond (nat_eq (digest_of (owner_of account)) digest) (Some (length c.args.accounts.now)) (get nat_eq c.args.firsts.now digest) = search rules in
    finds-still c.args.accounts.now c.args.firsts.now finds account c.insert.new.self none updated
