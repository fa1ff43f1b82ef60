use Rattle.std.proofs.Common.{◌≡◌, List, ℕ, true, false, Some, refl, subst}
use Rattle.std.specs.Prelude.{codes, position}
use Rattle.farm_site.specs.FaultExample.{five_nodes}
use Rattle.farm_site.specs.Spelling.{is_named}
use Rattle.farm_site.proofs.laws.ends_are_nodes_of_the_file.Goals as goal

pub returns-clause-unknown : goal.returns-clause-unknown
returns-clause-unknown c = record {
  name = codes "r3.example";
  stands = refl;
  none = λ node named. absurd cc;
}

pub returns-clause-known : goal.returns-clause-known
returns-clause-known c = λ unknown.
    let same : codes "C1.Example" ≡ unknown.name = let stands = unknown.stands in cc in
    let named : position (is_named unknown.name) five_nodes ≡ Some 3 = subst (λ (name : List ℕ). position (is_named name) five_nodes ≡ Some 3) same refl in
    let wrong : true ≡ false = unknown.none (record { 0 = 3 }) named in
    absurd cc
