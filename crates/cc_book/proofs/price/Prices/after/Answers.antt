use Rattle.std.proofs.Common.{◌≡◌, ◌++◌, List, ap, subst, sym, ◌∙◌}
use Rattle.std.specs.Prelude.{IsTrue}
use Rattle.std.specs.List.{list_all}
use Rattle.cc_rating.specs.Tariffs.{in_range}
use Rattle.cc_rating.specs.declared.tariff.Tariff.{Tariff}
use Rattle.cc_rating.proofs.Faults.{fault_of-none}
use Rattle.cc_book.specs.declared.price.Price.{Price}
use Rattle.cc_book.specs.Pricing.{AreInRange, new_prices, prices_after, prices_beside}
use Rattle.cc_book.proofs.Pricing.{after-ranged}
use Rattle.cc_book.proofs.price.Prices.after.Goals as goal

pub invariant_of-result : goal.invariant_of-result
invariant_of-result c =
    let tariffs = c.as_slice.result.now in
    let grants = c.args.grants.now in
    let old = c.self.inside.prices.items in
    let new : c.in_ok-prices.prices.items ≡ new_prices tariffs grants = c.in_ok-prices.ensures in
    let beside : c.in_ok-beside.beside.items ≡ prices_beside (new_prices tariffs grants) old =
    c.in_ok-beside.ensures
    ∙ ap (λ (ps : List Price). prices_beside ps c.deref-2.result.now) (c.deref.ensures.value ∙ new)
    ∙ ap (prices_beside (new_prices tariffs grants)) c.deref-2.ensures.value in
    let all : c.append.new.self.items ≡ prices_after tariffs old grants =
    c.in_ok-append.ensures.items
    ∙ ap (λ (ps : List Price). ps ++ c.in_ok-beside.beside.items) new
    ∙ ap (λ (ps : List Price). new_prices tariffs grants ++ ps) beside in
    let sound = subst (λ (ts : List Tariff). IsTrue (list_all in_range ts)) (sym c.as_slice.ensures.value)
    (fault_of-none c.args.tariffs.now c.as_slice.ensures.sound) in
    subst AreInRange (sym all) (after-ranged tariffs old grants sound c.self.invariant)
