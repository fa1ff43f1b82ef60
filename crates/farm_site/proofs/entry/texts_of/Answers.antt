use Rattle.std.proofs.Common.{◌≡◌, false, arith}
use Rattle.std.proofs.lemmas.Grind.{common_steps}
use Rattle.toml.specs.View.{items_view}
use Rattle.farm_site.specs.Forms.{all_items, is_string}
use Rattle.farm_site.proofs.Refusing.{value_fails}
use Rattle.farm_site.proofs.entry.texts_of.Goals as goal

pub returns-in_err-text_of-clause-fault : goal.returns-in_err-text_of-clause-fault
returns-in_err-text_of-clause-fault c =
    let fails : all_items is_string (items_view c.args.values.now) ≡ false =
    value_fails is_string c.args.values.now c.loop-value.value-index c.value-item.result c.loop-value-test.true c.value-item.is c.in_err-text_of.ensures.fault.1 in
    grind (arith, common_steps, fails)
