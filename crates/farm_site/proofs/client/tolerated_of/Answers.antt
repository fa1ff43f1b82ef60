use Rattle.std.proofs.Common.{◌≡◌, List, [], Bor, ℕ, true, false, ap, ◌∙◌, sym, subst}
use Rattle.std.specs.List.{list_any}
use Rattle.dia_grammar.specs.declared.profile.Tolerance.{Tolerance}
use Rattle.farm_base.specs.CheckedSite.{same_tolerance}
use Rattle.farm_site.specs.Faults.{IsElementFault, IsFaultIn, IsNoTolerance, of_elements}
use Rattle.farm_site.specs.Spelling.{texts, value_or}
use Rattle.farm_site.specs.declared.fault.SiteFault.{SiteFault}
use Rattle.farm_site.specs.declared.key.Key.TheVariants as keys
use Rattle.toml.specs.View.{table_view}
use Rattle.farm_site.proofs.Elements.{tolerances_more, unknown_word, word_twice, words, words_more}
use Rattle.farm_site.proofs.Refusing.{handed_on}
use Rattle.farm_site.proofs.client.tolerated_of.Goals as goal

pub returns-in_err-tolerance-clause-fault : goal.returns-in_err-tolerance-clause-fault
returns-in_err-tolerance-clause-fault c =
    let file = table_view c.args.file.table.now in
    let names = c.deref-name-items.result.now in
    let fault = c.in_err-tolerance.field-0.0 in
    let stand : value_or (texts []) keys.Tolerate file ≡ texts (words names) = c.in_ok-names.ensures.value ∙ ap (λ (seen : List (Bor (List ℕ))). texts (words seen)) (sym c.deref-name-items.ensures.value) in
    let unknown : IsNoTolerance file = unknown_word file names c.loop-name.name-index _ stand c.loop-name-test.true c.in_err-tolerance.ensures.fault.1 in
    let told : IsElementFault file fault = subst (λ (f : SiteFault). IsElementFault file f) (sym c.in_err-tolerance.ensures.fault.0) unknown in
    handed_on (IsFaultIn file) c.from_residual-in_err-tolerance.result fault c.from_residual-in_err-tolerance.ensures.1 (of_elements told)

pub returns-then-is_there-clause-fault : goal.returns-then-is_there-clause-fault
returns-then-is_there-clause-fault c =
    let file = table_view c.args.file.table.now in
    let names = c.deref-name-items.result.now in
    let tolerance = c.in_ok-tolerance.tolerance in
    let before = c.loop-name.tolerated.items in
    let stand : value_or (texts []) keys.Tolerate file ≡ texts (words names) = c.in_ok-names.ensures.value ∙ ap (λ (seen : List (Bor (List ℕ))). texts (words seen)) (sym c.deref-name-items.ensures.value) in
    let there : list_any (λ other. same_tolerance other tolerance) before ≡ true =
    ap (λ (ts : List Tolerance). list_any (λ (other : Tolerance). same_tolerance other tolerance) ts) (sym c.deref.ensures.value) ∙ sym c.if-is_there.ensures in
    of_elements (word_twice file names c.loop-name.name-index _ before tolerance stand c.loop-name-test.true c.loop-name.invariant.named c.in_ok-tolerance.ensures.value there)

pub loop-name-preserved : goal.loop-name-preserved
loop-name-preserved c =
    let names = c.deref-name-items.result.now in
    let tolerance = c.in_ok-tolerance.tolerance in
    let before = c.loop-name.tolerated.items in
    let new : list_any (λ other. same_tolerance other tolerance) before ≡ false =
    ap (λ (ts : List Tolerance). list_any (λ (other : Tolerance). same_tolerance other tolerance) ts) (sym c.deref.ensures.value) ∙ sym c.if-is_there.ensures in
    record {
      once = tolerances_more before c.push.new.self.items tolerance c.loop-name.invariant.once new c.in_ok-push.ensures.items;
      named = words_more names c.loop-name.name-index _ before c.push.new.self.items tolerance c.loop-name-test.true c.loop-name.invariant.named c.in_ok-tolerance.ensures.value c.in_ok-push.ensures.items;
    }
