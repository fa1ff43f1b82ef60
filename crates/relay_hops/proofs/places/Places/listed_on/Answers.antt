use Rattle.std.proofs.Common.{◌≡◌, ◌∙◌, ◌++◌, ℕ, List, [], rules, ap}
use Rattle.relay_hops.specs.declared.row.Row.{Row}
use Rattle.relay_hops.specs.PendingTable.{hops_on}
use Rattle.relay_hops.proofs.Orphans.{rows_in, rows-entries}
use Rattle.relay_hops.proofs.places.Places.listed_on.Goals as goal

pub loop-row-init : goal.loop-row-init
loop-row-init c =
    let left = c.into_iter-row-iterator.ensures.into_iter_gives ∙ c.iter-row-items.ensures.rest in
    let none : c.new-hops.result.items ≡ [] = search rules in (
      tt,
      tt,
      ap (λ (hops : List ℕ). hops ++ hops_on (rows_in c.into_iter-row-iterator.result) c.args.conn) none
          ∙ ap (λ (es : List (ℕ × Row)). hops_on (rows_in es) c.args.conn) left
          ∙ ap (λ (rows : List Row). hops_on rows c.args.conn) (rows-entries 0 c.args.self.now.slab.slots),
    )
