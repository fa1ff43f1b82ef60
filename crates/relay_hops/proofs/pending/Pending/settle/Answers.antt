use Rattle.std.proofs.Common.{◌∙◌, ap, sym, option_map}
use Rattle.relay_hops.specs.declared.row.Row.{Row}
use Rattle.relay_hops.proofs.Slab.{IsMap-indexed}
use Rattle.relay_hops.proofs.Going.{told_by, none_left}
use Rattle.relay_hops.proofs.pending.Pending.settle.Goals as goal

pub returns-in_err-row-clause-value : goal.returns-in_err-row-clause-value
returns-in_err-row-clause-value c =
    rw (← c.self.view_is)
    (c.from_residual.ensures ∙ sym (told_by c.self.inside.places c.args.conn c.args.hop c.take.result c.self.invariant.in_place c.take.ensures.value ∙ ap (option_map (λ (row : Row). row.held)) c.in_err-row.was))

pub returns-in_err-row-clause-free : goal.returns-in_err-row-clause-free
returns-in_err-row-clause-free c = none_left c.take.new.self c.args.conn c.args.hop c.take.ensures.indexed c.take.ensures.gone

pub returns-in_err-row-clause-map_before : goal.returns-in_err-row-clause-map_before
returns-in_err-row-clause-map_before c = rw (← c.self.view_is) (IsMap-indexed c.self.inside.places.slab.slots c.self.inside.places.index.keys.items c.self.invariant.in_place)

pub returns-in_err-row-clause-map : goal.returns-in_err-row-clause-map
returns-in_err-row-clause-map c = IsMap-indexed c.take.new.self.slab.slots c.take.new.self.index.keys.items c.take.ensures.indexed

pub returns-clause-value : goal.returns-clause-value
returns-clause-value c =
    rw (← c.self.view_is)
    (sym (told_by c.self.inside.places c.args.conn c.args.hop c.take.result c.self.invariant.in_place c.take.ensures.value ∙ ap (option_map (λ (row : Row). row.held)) c.in_ok-row.was))

pub returns-clause-free : goal.returns-clause-free
returns-clause-free c = none_left c.take.new.self c.args.conn c.args.hop c.take.ensures.indexed c.take.ensures.gone

pub returns-clause-map_before : goal.returns-clause-map_before
returns-clause-map_before c = rw (← c.self.view_is) (IsMap-indexed c.self.inside.places.slab.slots c.self.inside.places.index.keys.items c.self.invariant.in_place)

pub returns-clause-map : goal.returns-clause-map
returns-clause-map c = IsMap-indexed c.take.new.self.slab.slots c.take.new.self.index.keys.items c.take.ensures.indexed
