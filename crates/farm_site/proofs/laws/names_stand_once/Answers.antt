use Rattle.std.proofs.Common.{◌≡◌, List, ℕ, false, refl, subst}
use Rattle.std.specs.List.{list_any}
use Rattle.std.specs.Prelude.{codes}
use Rattle.farm_site.specs.FaultExample.{five_nodes}
use Rattle.farm_site.specs.Spelling.{is_named}
use Rattle.farm_site.proofs.laws.names_stand_once.Goals as goal

pub returns-clause-twice : goal.returns-clause-twice
returns-clause-twice c = record { name = codes "R1.Example"; stands = refl; there = refl }

pub returns-clause-once : goal.returns-clause-once
returns-clause-once c = λ twice.
    let same : codes "r3.example" ≡ twice.name = let stands = twice.stands in cc in
    let none : list_any (is_named twice.name) five_nodes ≡ false = subst (λ (name : List ℕ). list_any (is_named name) five_nodes ≡ false) same refl in
    let there = twice.there in
    absurd cc
