use Rattle.std.proofs.Common.{◌≡◌, ◌∙◌, sym, option_map, rules}
use Rattle.std.specs.Option.{option_copied}
use Rattle.relay_hops.specs.declared.row.Row.{Row}
use Rattle.relay_hops.specs.PlaceTable.{row_at}
use Rattle.relay_hops.proofs.Slab.{held-row, IsMap-indexed}
use Rattle.relay_hops.proofs.pending.Pending.held.Goals as goal

told : (c : goal.After-map) → option_copied c.map.result ≡ option_map (λ (row : Row). row.held) (row_at c.self.inside.places c.args.conn c.args.hop)
told c = search rules

pub returns-clause-value : goal.returns-clause-value
returns-clause-value c = rw (← c.self.view_is) (told c ∙ sym (held-row c.self.inside.places c.args.conn c.args.hop c.self.invariant.in_place))

pub returns-clause-map : goal.returns-clause-map
returns-clause-map c = rw (← c.self.view_is) (IsMap-indexed c.self.inside.places.slab.slots c.self.inside.places.index.keys.items c.self.invariant.in_place)
