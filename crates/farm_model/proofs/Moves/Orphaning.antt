-- What came on a connection that has ended has no asker any more; what is left of a row that had one.
use Rattle.std.proofs.Common.{◌≡◌, Bool, true, false, cond, List, [], ◌∷◌, ◌++◌, map, Option, Some, None, refl, sym, ap, ◌∙◌}
use Rattle.std.specs.Prelude.{◌==◌}
use Rattle.dia_base.specs.declared.number.ConnId.{ConnId}
use Rattle.dia_base.specs.declared.number.NodeNo.{NodeNo}
use Rattle.dia_message.specs.declared.message.Message.{Message}
use Rattle.relay_hops.specs.declared.row.Held.{Held}
use Rattle.relay_hops.specs.declared.row.Origin.{Origin}
use Rattle.relay_hops.specs.declared.row.Row.{Row}
use Rattle.relay_hops.specs.PendingTable.{but_from, orphaned}
use Rattle.relay_core.specs.Failover.{without_origins}
use Rattle.relay_core.specs.RelayState.{RelayState}
use Rattle.relay_core.specs.RelayStep.{row_of}
use Rattle.farm_law.specs.Farm.{PendingRow}
use Rattle.farm_law.specs.Lists.{Has}
use Rattle.farm_law.specs.Moves.{Orphaned, none, as_it_was, orphan}
use Rattle.farm_model.specs.Cause.{IsStranded}
use Rattle.farm_model.specs.World.{Ends}
use Rattle.farm_model.proofs.Lists.Among.{Has-unmap, Contains-has}
use Rattle.farm_model.proofs.Moves.AsFarm.{asker_of, pending_of}

-- ---- the rows of the farm

orphaned_same : (rows : List PendingRow) → Orphaned rows rows
orphaned_same [] = none
orphaned_same (row ∷ rows) = as_it_was (orphaned_same rows)

orphaned_parts : {old new more_old more_new : List PendingRow} → Orphaned old new → Orphaned more_old more_new → Orphaned (old ++ more_old) (new ++ more_new)
orphaned_parts none h = h
orphaned_parts (as_it_was g) h = as_it_was (orphaned_parts g h)
orphaned_parts (orphan g) h = orphan (orphaned_parts g h)

orphaned_row : (ends : Ends) (node : NodeNo) (lost conn : ConnId) (request : Message) (origin : Option Origin) {old new : List PendingRow} → Orphaned old new
    → Orphaned (record { relay = node; conn = conn; asker = asker_of ends node origin; request = request } ∷ old)
    (record { relay = node; conn = conn; asker = asker_of ends node (but_from lost origin); request = request } ∷ new)
orphaned_row ends node lost conn request None h = as_it_was h
orphaned_row ends node lost conn request (Some origin) {old} {new} h = go (origin.conn.0 == lost.0)
  where
    go : (b : Bool) → Orphaned (record { relay = node; conn = conn; asker = asker_of ends node (Some origin); request = request } ∷ old)
        (record { relay = node; conn = conn; asker = asker_of ends node (cond b None (Some origin)); request = request } ∷ new)
    go true = orphan h
    go false = as_it_was h

orphaned_rows : (ends : Ends) (node : NodeNo) (lost : ConnId) (rows : List Row) → Orphaned (map (pending_of ends node) rows)
    (map (pending_of ends node) (without_origins lost rows))
orphaned_rows ends node lost [] = none
orphaned_rows ends node lost (row ∷ rows) = orphaned_row ends node lost row.conn row.held.request row.held.origin (orphaned_rows ends node lost rows)

-- the rows of the relay lose askers, and those of the others do not change
pub rows_orphaned : (ends : Ends) (node : NodeNo) (lost : ConnId) (front back : List PendingRow) (rows : List Row)
    → Orphaned (front ++ (map (pending_of ends node) rows ++ back)) (front ++ (map (pending_of ends node) (without_origins lost rows) ++ back))
rows_orphaned ends node lost front back rows = orphaned_parts (orphaned_same front) (orphaned_parts (orphaned_rows ends node lost rows) (orphaned_same back))

-- ---- a row that has an asker had it before

origin_before : (lost : ConnId) (origin : Option Origin) (now : Origin) → but_from lost origin ≡ Some now → (origin ≡ Some now) ×
    ((now.conn.0 == lost.0) ≡ false)
origin_before lost None now e = absurd cc
origin_before lost (Some origin) now e = go (origin.conn.0 == lost.0) refl e
  where
    go : (b : Bool) → (origin.conn.0 == lost.0) ≡ b → cond b None (Some origin) ≡ Some now → (Some origin ≡ Some now) × ((now.conn.0 == lost.0) ≡ false)
    go true is k = absurd cc
    go false is k = let same : origin ≡ now = cc in (k, ap (λ (o : Origin). o.conn.0 == lost.0) (sym same) ∙ is)

-- a request that still has an asker is stranded
pub is_stranded : (relay : RelayState) (lost : ConnId) (held : Held) (origin : Origin) → held.origin ≡ Some origin → Has (row_of lost held)
    (without_origins lost relay.pending.rows) → IsStranded relay lost held.request
is_stranded relay lost held origin from h =
    let was = Has-unmap (orphaned lost) relay.pending.rows h in
    let before = origin_before lost was.0.held.origin origin (ap (λ (r : Row). r.held.origin) was.2 ∙ from) in
    record {
      row = was.0;
      among = Contains-has was.1;
      on = ap (λ (r : Row). r.conn) was.2;
      request = ap (λ (r : Row). r.held.request) was.2;
      origin = origin;
      origin_is = before.0;
      stands = before.1;
    }
