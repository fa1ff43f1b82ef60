use Rattle.std.proofs.Common.{◌<◌, List, Option, ℕ, Some, length, set, sym, subst, rules}
use Rattle.relay_hops.specs.Identifiers.{place_of}
use Rattle.relay_hops.specs.PlaceTable.{AreIndexed}
use Rattle.relay_hops.proofs.Slab.{row_put, indexed_put}
use Rattle.relay_hops.proofs.places.Places.put.Goals as goal

pub returns-clause-with : goal.returns-clause-with
returns-clause-with c = row_put c.args.self.now.slab c.insert_reserved-key.new.self c.insert_reserved-key.result c.args.row c.insert_reserved-key.ensures.was_vacant c.insert_reserved-key.ensures.updates

pub returns-clause-indexed : goal.returns-clause-indexed
returns-clause-indexed c =
    let some : 0 < length c.args.self.now.index.keys.items = search rules in
    subst (λ (keys : List (Option ℕ)). AreIndexed c.insert_reserved-key.new.self.slots keys) (sym c.set.ensures)
    (subst (λ (hop : ℕ). AreIndexed c.insert_reserved-key.new.self.slots (set c.args.self.now.index.keys.items (place_of (length c.args.self.now.index.keys.items) hop) (Some c.insert_reserved-key.result))) (sym c.hop-hop.ensures)
    (indexed_put c.args.self.now.slab c.insert_reserved-key.new.self c.args.self.now.index.keys.items c.insert_reserved-key.result c.args.row some c.requires.indexed c.requires.vacant c.insert_reserved-key.ensures.was_vacant
    c.insert_reserved-key.ensures.updates c.insert_reserved-key.ensures.len))
