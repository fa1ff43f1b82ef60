use Rattle.std.proofs.Common.{◌≡◌, ◌+◌, ◌<◌, ◌∙◌, List, Option, ℕ, Some, length, OnSome, sym, subst, rules}
use Rattle.slab.specs.Slab.{slab_len}
use Rattle.relay_hops.specs.declared.row.Row.{Row}
use Rattle.relay_hops.specs.Identifiers.{key_in, place_of}
use Rattle.relay_hops.specs.PlaceTable.{AreIndexed}
use Rattle.relay_hops.proofs.Slab.{taken_out, indexed_out}
use Rattle.relay_hops.proofs.places.Places.take.Goals as goal

pub returns-clause-without : goal.returns-clause-without
returns-clause-without c = taken_out c.args.self.now.slab c.try_remove.new.self c.in_ok-key.key c.try_remove.result (sym c.try_remove.ensures.value) c.try_remove.ensures.updates

pub returns-clause-indexed : goal.returns-clause-indexed
returns-clause-indexed c =
    let some : 0 < length c.args.self.now.index.keys.items = search rules in
    let there : key_in c.args.self.now.index.keys.items c.args.hop ≡ Some c.in_ok-key.key = search rules in
    let own = c.requires.indexed.filled (place_of (length c.args.self.now.index.keys.items) c.args.hop) c.in_ok-key.key there in
    let taken : c.try_remove.result ≡ Some own.row = c.try_remove.ensures.value ∙ own.there in
    let less : slab_len c.try_remove.new.self + 1 ≡ slab_len c.args.self.now.slab = subst (λ (o : Option Row). OnSome o (slab_len c.try_remove.new.self + 1 ≡ slab_len c.args.self.now.slab)) taken c.try_remove.ensures.len in
    subst (λ (keys : List (Option ℕ)). AreIndexed c.try_remove.new.self.slots keys) (sym c.set.ensures)
    (indexed_out c.args.self.now.slab c.try_remove.new.self c.args.self.now.index.keys.items c.in_ok-key.key c.args.hop own.row some c.requires.indexed there own.there c.try_remove.ensures.updates less)
