use Rattle.std.proofs.Common.{◌≡◌, take, vec_len}
use Rattle.std.specs.List.{AllZip}
use Rattle.farm_base.specs.CheckedSite.{is_sound_account, same_account}
use Rattle.farm_site.specs.Growing.{AreSound}
use Rattle.farm_site.proofs.Owning.{AreOwners}
use Rattle.farm_site.specs.Spelling.{SpellsAccount, tables_of}
use Rattle.farm_site.proofs.account.accounts_of.Given as goal

abbrev pub invariant-loop-entry : goal.invariant-loop-entry
invariant-loop-entry l = record {
  counted : vec_len l.accounts ≡ l.entry-index;
  sound : AreSound is_sound_account same_account l.accounts.items;
  spelled : AllZip SpellsAccount (tables_of (take l.entry-index l.entry-items)) l.accounts.items;
  owners : AreOwners l.owners.keys l.accounts.items;
}
