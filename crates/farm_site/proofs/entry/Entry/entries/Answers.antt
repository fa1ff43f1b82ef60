use Rattle.std.proofs.Common.{rules, ◌≡◌, false, Some, arith}
use Rattle.std.proofs.lemmas.Grind.{common_steps}
use Rattle.toml.specs.Data.{as_array}
use Rattle.toml.specs.View.{items_view, table_view, view}
use Rattle.farm_site.specs.Forms.{all_in, list_of_tables, is_table}
use Rattle.farm_site.specs.Spelling.{value_at}
use Rattle.farm_site.proofs.Refusing.{array_fails, value_fails, wrong_type}
use Rattle.farm_site.proofs.entry.Entry.entries.Goals as goal

pub returns-in_err-entry_of-clause-fault : goal.returns-in_err-entry_of-clause-fault
returns-in_err-entry_of-clause-fault c = λ form.
    let values = c.in_ok-values.values.now in
    let fails : all_in is_table (as_array (view c.in-Some.value.now)) ≡ false =
    array_fails is_table (view c.in-Some.value.now) (items_view values) c.in_ok-values.ensures.value
    (value_fails is_table values c.loop-value.value-index c.value-item.result c.loop-value-test.true c.value-item.is c.in_err-entry_of.ensures.fault.1) in
    let at : value_at c.args.key (table_view c.args.self.table.now) ≡ Some (view c.in-Some.value.now) = search rules in
    let told = wrong_type (table_view c.args.self.table.now) c.args.key (list_of_tables c.args.most) (view c.in-Some.value.now) c.in_err-entry_of.field-0.0 form at fails c.in_err-entry_of.ensures.fault.0 in
    grind (arith, common_steps, told)
