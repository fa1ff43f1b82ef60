use Rattle.std.proofs.Common.{rules, ◌≡◌, ◌<◌, false, List, length, get_or, ℤ, pos, to_z, of_z, w64, subst, arith}
use Rattle.std.proofs.lemmas.Grind.{common_steps}
use Rattle.toml.specs.View.{items_view}
use Rattle.farm_site.specs.Forms.{all_items, is_from_to, is_number}
use Rattle.farm_site.proofs.Refusing.{integer_fails}
use Rattle.farm_site.proofs.entry.numbers_of.Goals as goal

pub returns-in_err-small_of-clause-fault : goal.returns-in_err-small_of-clause-fault
returns-in_err-small_of-clause-fault c =
    let within = is_from_to c.args.least 4294967295 in
    let integers = c.in_ok-integers.integers.items in
    let place = c.loop-integer.integer-index in
    let read = get_or c.deref-integer-items.result.now place (pos 0) in
    let same : to_z w64 (of_z w64 read) ≡ read = first_of (search rules, grind (arith, common_steps)) in
    let wrong : within read ≡ false = subst (λ (z : ℤ). within z ≡ false) same c.in_err-small_of.ensures.fault.1 in
    let there = subst (λ (zs : List ℤ). place < length zs) c.deref-integer-items.ensures.value c.loop-integer-test.true in
    let fails : all_items (is_number c.args.least 4294967295) (items_view c.args.values.now) ≡ false =
    integer_fails within c.args.values.now integers place (pos 0) c.in_ok-integers.ensures.value there
    (subst (λ (zs : List ℤ). within (get_or zs place (pos 0)) ≡ false) c.deref-integer-items.ensures.value wrong) in
    grind (arith, common_steps, fails)
