use Rattle.std.proofs.Common.{◌∙◌, ◌%◌, is_some, ap, sym}
use Rattle.relay_hops.specs.PlaceTable.{rows_of}
use Rattle.relay_hops.proofs.Numbers.{places-power}
use Rattle.relay_hops.proofs.Slab.{IsMap-indexed}
use Rattle.relay_hops.proofs.Going.{vacant_free, renumbered, taken_held}
use Rattle.relay_hops.proofs.pending.Pending.renumber.Goals as goal

pub first_free-fresh-requires-clause-power : goal.first_free-fresh-requires-clause-power
first_free-fresh-requires-clause-power c = ap (λ n. 2147483648 % n) c.self.invariant.size ∙ places-power c.self.inside.limit

pub returns-in_err-row-clause-variant : goal.returns-in_err-row-clause-variant
returns-in_err-row-clause-variant c = rw (← c.self.view_is) (ap is_some c.from_residual.ensures ∙ sym (ap is_some c.in_err-row.was) ∙ taken_held c.self.inside.places c.args.conn c.args.hop c.take.result c.self.invariant.in_place c.take.ensures.value)

pub returns-in_err-row-clause-map_before : goal.returns-in_err-row-clause-map_before
returns-in_err-row-clause-map_before c = rw (← c.self.view_is) (IsMap-indexed c.self.inside.places.slab.slots c.self.inside.places.index.keys.items c.self.invariant.in_place)

pub returns-in_err-row-clause-map : goal.returns-in_err-row-clause-map
returns-in_err-row-clause-map c = IsMap-indexed c.take.new.self.slab.slots c.take.new.self.index.keys.items c.take.ensures.indexed

pub returns-clause-variant : goal.returns-clause-variant
returns-clause-variant c = rw (← c.self.view_is) (sym (ap is_some c.in_ok-row.was) ∙ taken_held c.self.inside.places c.args.conn c.args.hop c.take.result c.self.invariant.in_place c.take.ensures.value)

pub returns-clause-free : goal.returns-clause-free
returns-clause-free c = rw (← c.self.view_is) (vacant_free c.self.inside.places c.args.conn c.first_free-fresh.result.hop c.self.invariant.in_place c.first_free-fresh.ensures.vacant)

pub returns-clause-moved : goal.returns-clause-moved
returns-clause-moved c =
    rw (← c.self.view_is)
    (renumbered c.self.inside.places c.args.conn c.args.hop c.first_free-fresh.result.hop c.in_ok-row.row c.resend.new.self (rows_of c.take.new.self) (rows_of c.put.new.self) c.self.invariant.in_place
    (sym c.take.ensures.value ∙ c.in_ok-row.was) c.resend.ensures c.in_ok-row.ensures.without c.put.ensures.with)

pub returns-clause-map_before : goal.returns-clause-map_before
returns-clause-map_before c = rw (← c.self.view_is) (IsMap-indexed c.self.inside.places.slab.slots c.self.inside.places.index.keys.items c.self.invariant.in_place)

pub returns-clause-map : goal.returns-clause-map
returns-clause-map c = IsMap-indexed c.put.new.self.slab.slots c.put.new.self.index.keys.items c.put.ensures.indexed
