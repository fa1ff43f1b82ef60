use Rattle.std.proofs.Common.{◌≡◌, map, is_some, List, Option, rules, ap, sym, subst, ◌∙◌}
use Rattle.std.specs.List.{count_by}
use Rattle.relay_hops.specs.declared.row.Row.{Row}
use Rattle.relay_hops.specs.PendingTable.{orphaned}
use Rattle.relay_hops.specs.PlaceTable.{rows_at, AreIndexed}
use Rattle.relay_hops.proofs.Orphans.{lose, map-RetainsFrom, len-map, rows-orphaned, indexed-orphaned}
use Rattle.relay_hops.proofs.places.Places.lose_origins.Goals as goal

left : (c : goal.After-retain) → c.retain.new.self.slots ≡ map (lose c.args.conn) c.args.self.now.slab.slots
left c = map-RetainsFrom _ (orphaned c.args.conn) _ (λ key shown keep left next call. search rules) 0 _ _ c.retain.ensures.retained

pub returns-clause-rows : goal.returns-clause-rows
returns-clause-rows c = ap rows_at (left c) ∙ rows-orphaned c.args.conn c.args.self.now.slab.slots

pub returns-clause-count : goal.returns-clause-count
returns-clause-count c = ap (count_by is_some) (left c) ∙ len-map (orphaned c.args.conn) c.args.self.now.slab.slots

pub returns-clause-indexed : goal.returns-clause-indexed
returns-clause-indexed c =
    subst (λ (slots : List (Option Row)). AreIndexed slots c.args.self.now.index.keys.items) (sym (left c))
    (indexed-orphaned c.args.conn c.args.self.now.slab.slots c.args.self.now.index.keys.items c.requires)
