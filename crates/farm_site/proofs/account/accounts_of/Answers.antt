use Rattle.std.proofs.Common.{◌≡◌, List, true, false, sym, subst, refl, ◌∙◌, arith, rules}
use Rattle.std.specs.BTreeMap.{is_at}
use Rattle.std.specs.List.{list_any}
use Rattle.cc_book.specs.declared.account.Account.{Account}
use Rattle.farm_base.specs.CheckedSite.{is_sound_account, same_account}
use Rattle.toml.specs.View.{table_view}
use Rattle.farm_site.specs.declared.fault.SiteFault.TheVariants.{Twice}
use Rattle.farm_site.specs.Faults.{IsAccountFault, IsIdTwice, IsTableFault}
use Rattle.farm_site.specs.Spelling.{SpellsAccount}
use Rattle.farm_site.proofs.Owning.{AreOwners, account_may_follow, is_owned_by, owner_cmp, owners_push, spelled_by, was_absent, was_there}
use Rattle.farm_site.proofs.Pushing.{grown}
use Rattle.farm_site.specs.declared.key.Key.TheVariants as keys
use Rattle.farm_site.proofs.Refusing.{account_told, handed_on, told_in}
use Rattle.farm_site.proofs.Spelled.{table_all, table_more}
use Rattle.farm_site.proofs.account.accounts_of.Goals as goal

pub loop-entry-preserved : goal.loop-entry-preserved
loop-entry-preserved c =
    let accounts : List Account = c.loop-entry.accounts.items in
    let account = c.in_ok-account.account in
    let owner = c.in_ok-owner.owner in
    let was_new : c.in_ok-is_new.is_new ≡ true = search rules in
    let absent : list_any (is_at (owner_cmp owner)) c.loop-entry.owners.keys ≡ false = was_absent c.in_ok-is_new.is_new (list_any (is_at (owner_cmp owner)) c.loop-entry.owners.keys) c.in_ok-is_new.ensures.added was_new in
    let none : list_any (is_owned_by owner) accounts ≡ false = sym (c.loop-entry.invariant.owners owner) ∙ absent in
    record {
      counted = omega (arith, c.in_ok-push.ensures.len);
      sound = grown is_sound_account same_account accounts accounts c.push.new.self.items account c.loop-entry.invariant.sound refl (account_may_follow accounts account owner c.in_ok-account.ensures.kind c.in_ok-account.ensures.id c.in_ok-owner.ensures.kind c.in_ok-owner.ensures.id c.in_ok-account.ensures.opening none) c.in_ok-push.ensures.items;
      owners = subst (λ (xs : List Account). AreOwners c.insert.new.self.keys xs) (sym c.in_ok-push.ensures.items) (owners_push c.loop-entry.owners.keys c.insert.new.self.keys accounts account owner c.loop-entry.invariant.owners c.in_ok-is_new.ensures.updates.0 c.in_ok-account.ensures.kind c.in_ok-account.ensures.id);
      spelled = table_more SpellsAccount c.deref-entry-items.result.now c.loop-entry.entry-index c.entry-item.result accounts c.push.new.self.items account c.loop-entry-test.true c.entry-item.is c.loop-entry.invariant.spelled (spelled_by (table_view c.entry-item.result.table.now) account owner c.in_ok-account.ensures.kind c.in_ok-account.ensures.id c.in_ok-owner.ensures.kind_spelled c.in_ok-owner.ensures.id_spelled c.in_ok-account.ensures.opening_spelled) c.in_ok-push.ensures.items;
    }

pub returns-clause-spelled : goal.returns-clause-spelled
returns-clause-spelled c = table_all SpellsAccount _ _ c.deref-entry-items.result.now c.in_ok-entries.entries.items c.loop-entry.entry-index c.loop-entry.accounts.items c.deref-entry-items.ensures.value c.in_ok-entries.ensures.value c.loop-entry-test.false c.loop-entry.invariant.spelled

pub returns-in_err-owner-clause-fault : goal.returns-in_err-owner-clause-fault
returns-in_err-owner-clause-fault c =
    let file = table_view c.args.file.table.now in
    let fault = c.in_err-owner.field-0.0 in
    let of_table = told_in SpellsAccount IsAccountFault keys.Account file c.deref-entry-items.result.now c.in_ok-entries.entries.items c.loop-entry.entry-index c.entry-item.result c.loop-entry.accounts.items fault c.deref-entry-items.ensures.value c.in_ok-entries.ensures.value c.loop-entry-test.true c.entry-item.is c.loop-entry.invariant.spelled (account_told c.loop-entry.accounts.items (table_view c.entry-item.result.table.now) fault c.in_err-owner.ensures.fault c.in_err-owner.ensures.told) in
    handed_on (IsTableFault SpellsAccount IsAccountFault keys.Account file) c.from_residual-in_err-owner.result fault c.from_residual-in_err-owner.ensures.1 of_table

pub returns-in_err-account-clause-fault : goal.returns-in_err-account-clause-fault
returns-in_err-account-clause-fault c =
    let file = table_view c.args.file.table.now in
    let fault = c.in_err-account.field-0.0 in
    let of_table = told_in SpellsAccount IsAccountFault keys.Account file c.deref-entry-items.result.now c.in_ok-entries.entries.items c.loop-entry.entry-index c.entry-item.result c.loop-entry.accounts.items fault c.deref-entry-items.ensures.value c.in_ok-entries.ensures.value c.loop-entry-test.true c.entry-item.is c.loop-entry.invariant.spelled (account_told c.loop-entry.accounts.items (table_view c.entry-item.result.table.now) fault c.in_err-account.ensures.fault c.in_err-account.ensures.told) in
    handed_on (IsTableFault SpellsAccount IsAccountFault keys.Account file) c.from_residual-in_err-account.result fault c.from_residual-in_err-account.ensures.1 of_table

pub returns-then-not-is_new-clause-fault : goal.returns-then-not-is_new-clause-fault
returns-then-not-is_new-clause-fault c =
    let accounts : List Account = c.loop-entry.accounts.items in
    let owner = c.in_ok-owner.owner in
    let old : c.in_ok-is_new.is_new ≡ false = search rules in
    let there : list_any (is_owned_by owner) accounts ≡ true = sym (c.loop-entry.invariant.owners owner) ∙ was_there c.in_ok-is_new.is_new (list_any (is_at (owner_cmp owner)) c.loop-entry.owners.keys) c.in_ok-is_new.ensures.added old in
    let twice : IsIdTwice accounts (table_view c.entry-item.result.table.now) = record { id_kind = owner.id_kind; id = owner.id.now; of_kind = c.in_ok-owner.ensures.kind_spelled; of_id = c.in_ok-owner.ensures.id_spelled; there = there } in
    told_in SpellsAccount IsAccountFault keys.Account (table_view c.args.file.table.now) c.deref-entry-items.result.now c.in_ok-entries.entries.items c.loop-entry.entry-index c.entry-item.result accounts (Twice keys.Id) c.deref-entry-items.ensures.value c.in_ok-entries.ensures.value c.loop-entry-test.true c.entry-item.is c.loop-entry.invariant.spelled twice
