use Rattle.std.proofs.Common.{Option, List, ap, subst, sym, ◌∙◌}
use Rattle.std.specs.Prelude.{IfSome, IsTrue}
use Rattle.cc_rating.specs.Tariffs.{in_range}
use Rattle.cc_rating.specs.declared.tariff.Tariff.{Tariff}
use Rattle.cc_book.specs.declared.price.Price.{Price}
use Rattle.cc_book.specs.Pricing.{price_in}
use Rattle.cc_book.proofs.Pricing.{price_in-ranged}
use Rattle.cc_book.proofs.price.Prices.find.Goals as goal

pub returns-clause-rates : goal.returns-clause-rates
returns-clause-rates c =
    subst (λ (o : Option Tariff). IfSome o (λ tariff. IsTrue (in_range tariff)))
    (sym (c.price_in.ensures ∙ ap (λ (ps : List Price). price_in ps c.args.name) c.deref.ensures.value))
    (price_in-ranged c.self.inside.prices.items c.args.name c.self.invariant)
