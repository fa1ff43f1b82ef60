use Rattle.std.proofs.Common.{◌≡◌, length}
use Rattle.std.specs.Vec.Iter.{into_iter_items, into_iter_len}
use Rattle.farm_connections.specs.Desks.{kept_by}
use Rattle.farm_connections.proofs.Calls.{HeardSo}
use Rattle.farm_connections.proofs.Telling.{Way}
use Rattle.farm_connections.proofs.desk.Desk.receive_on.Given as goal

abbrev pub invariant-loop-message : goal.invariant-loop-message
invariant-loop-message g l = record {
  can : (goal.iterator-loop-message g).can_next l.message-iterator;
  finite : (goal.iterator-loop-message g).is_finite l.message-iterator;
  tells : Way g.N.Node.on_event (kept_by l.fn.self) (kept_by l.self);
  places : length l.self.links.items ≡ length l.fn.self.links.items;
  count : length (into_iter_items l.message-iterator) ≡ into_iter_len l.message-iterator;
  heard : HeardSo g.N.Node.on_event l.fn.locals l.fn.moment l.place l.initial.self (into_iter_items l.initial.message-iterator) (into_iter_items l.message-iterator) l.self;
}
