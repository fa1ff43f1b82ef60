use Rattle.std.proofs.Common.{◌≡◌, true, List, None, sym, subst, arith}
use Rattle.std.specs.List.{list_all}
use Rattle.cc_rating.specs.declared.tariff.Tariff.{Tariff}
use Rattle.cc_rating.specs.Tariffs.{fault_after, fault_of}
use Rattle.farm_site.specs.Faults.{IsTariffFault, IsTableFault}
use Rattle.farm_site.specs.Spelling.{SpellsTariff, is_typed_tariff}
use Rattle.farm_site.proofs.Pushing.{all_push, faultless_push}
use Rattle.toml.specs.View.{table_view}
use Rattle.farm_site.specs.declared.key.Key.TheVariants as keys
use Rattle.farm_site.proofs.Refusing.{handed_on, told_in}
use Rattle.farm_site.proofs.Spelled.{table_all, table_more}
use Rattle.farm_site.proofs.tariff.tariffs_of.Goals as goal

pub loop-entry-preserved : goal.loop-entry-preserved
loop-entry-preserved c =
    let old : List Tariff = c.loop-entry.tariffs.items in
    let tariff : Tariff = c.in_ok-tariff.tariff in
    let sound : fault_after old tariff ≡ None = subst (λ (ts : List Tariff). fault_after ts tariff ≡ None) c.deref.ensures.value c.in_ok-tariff.ensures.sound in
    record {
      counted = omega (arith, c.in_ok-push.ensures.len);
      sound = subst (λ (ts : List Tariff). fault_of ts ≡ None) (sym c.in_ok-push.ensures.items) (faultless_push old tariff c.loop-entry.invariant.sound sound);
      typed = subst (λ (ts : List Tariff). list_all is_typed_tariff ts ≡ true) (sym c.in_ok-push.ensures.items) (all_push is_typed_tariff old tariff c.loop-entry.invariant.typed c.in_ok-tariff.ensures.typed);
      spelled = table_more SpellsTariff c.deref-entry-items.result.now c.loop-entry.entry-index c.entry-item.result old c.push.new.self.items tariff c.loop-entry-test.true c.entry-item.is c.loop-entry.invariant.spelled c.in_ok-tariff.ensures.spelled c.in_ok-push.ensures.items;
    }

pub returns-clause-spelled : goal.returns-clause-spelled
returns-clause-spelled c = table_all SpellsTariff _ _ c.deref-entry-items.result.now c.in_ok-entries.entries.items c.loop-entry.entry-index c.loop-entry.tariffs.items c.deref-entry-items.ensures.value c.in_ok-entries.ensures.value c.loop-entry-test.false c.loop-entry.invariant.spelled

pub returns-in_err-tariff-clause-fault : goal.returns-in_err-tariff-clause-fault
returns-in_err-tariff-clause-fault c =
    let file = table_view c.args.file.table.now in
    let entry = table_view c.entry-item.result.table.now in
    let fault = c.in_err-tariff.field-0.0 in
    let told : IsTariffFault c.loop-entry.tariffs.items entry fault = subst (λ (items : List _). IsTariffFault items entry fault) c.deref.ensures.value (c.in_err-tariff.ensures.fault) in
    let of_table = told_in SpellsTariff IsTariffFault keys.Tariff file c.deref-entry-items.result.now c.in_ok-entries.entries.items c.loop-entry.entry-index c.entry-item.result c.loop-entry.tariffs.items fault c.deref-entry-items.ensures.value c.in_ok-entries.ensures.value c.loop-entry-test.true c.entry-item.is c.loop-entry.invariant.spelled told in
    handed_on (IsTableFault SpellsTariff IsTariffFault keys.Tariff file) c.from_residual-in_err-tariff.result fault c.from_residual-in_err-tariff.ensures.1 of_table
