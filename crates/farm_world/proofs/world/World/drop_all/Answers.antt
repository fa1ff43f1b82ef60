use Rattle.std.proofs.Common.{◌<◌, List, [], ◌++◌, get_or, length, refl, sym, subst, arith}
use Rattle.std.proofs.lemmas.List.{take_more}
use Rattle.dia_base.specs.declared.number.NodeNo.{NodeNo}
use Rattle.farm_model.specs.Loss.{LossAt, DropAll, all_dropped}
use Rattle.farm_world.proofs.Losing.{DropAll-push, TellsSame-on}
use Rattle.farm_world.proofs.world.World.drop_all.Goals as goal

pub loop-peer-init : goal.loop-peer-init
loop-peer-init g c = record { known = ([], all_dropped); same = (refl, refl, refl, refl) }

pub loop-peer-preserved : goal.loop-peer-preserved
loop-peer-preserved g c =
    let peers : List NodeNo = c.args.peers.now in
    let at = c.loop-peer.peer-index in
    let none : NodeNo = record { 0 = 0 } in
    let before = c.loop-peer.invariant in
    let dropped = c.in_ok-drop_end.ensures.ok in
    let known : List LossAt = before.known.0 ++ dropped.0 in
    let within : at < length peers = omega arith in
    record {
      known = (
        known,
        subst (λ (ps : List NodeNo). DropAll c.args.node ps c.args.self.now known c.drop_end.new.self) (sym (take_more peers at none within))
            (DropAll-push (get_or peers at none) dropped.0 c.drop_end.new.self before.known.1 dropped.1.1),
      );
      same = TellsSame-on c.args.self.now c.loop-peer.self c.drop_end.new.self before.same c.drop_end.ensures.same;
    }
