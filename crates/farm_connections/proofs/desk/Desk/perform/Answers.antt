use Rattle.std.proofs.Common.{[], ap, refl, ◌∙◌}
use Rattle.farm_connections.specs.Doing.{begins}
use Rattle.farm_connections.proofs.Telling.{no_way, way_then}
use Rattle.farm_connections.proofs.Doing.{acts_left, one_done}
use Rattle.farm_connections.proofs.desk.Desk.perform.Goals as goal

pub loop-act-init : goal.loop-act-init
loop-act-init g c = record { tells = no_way _ _ refl; places = refl; done = record { done = []; all_is = refl; performs = begins } }

pub loop-act-preserved-in-Send : goal.loop-act-preserved-in-Send
loop-act-preserved-in-Send g c =
    let before = c.loop-act.invariant in
    record {
      tells = way_then before.tells (no_way _ _ c.send_here.ensures.kept);
      places = c.send_here.ensures.places ∙ before.places;
      done = one_done c.args.place c.args.self.now c.loop-act.self c.send_here.new.self c.args.acts c.loop-act.acts _ _ before.done (acts_left _ _ _ _ c.in-Some.ensures.taken c.in-Send.is) c.send_here.ensures.sent;
    }

pub loop-act-preserved-in-Send-2 : goal.loop-act-preserved-in-Send-2
loop-act-preserved-in-Send-2 g c =
    let before = c.loop-act.invariant in
    record {
      tells = way_then before.tells (no_way _ _ c.send_here.ensures.kept);
      places = c.send_here.ensures.places ∙ before.places;
      done = one_done c.args.place c.args.self.now c.loop-act.self c.send_here.new.self c.args.acts c.loop-act.acts _ _ before.done (acts_left _ _ _ _ c.in-Some.ensures.taken c.in-Send.is) c.send_here.ensures.sent;
    }

pub loop-act-preserved-in-Send-3 : goal.loop-act-preserved-in-Send-3
loop-act-preserved-in-Send-3 g c =
    let before = c.loop-act.invariant in
    record {
      tells = way_then before.tells (no_way _ _ c.send_here.ensures.kept);
      places = c.send_here.ensures.places ∙ before.places;
      done = one_done c.args.place c.args.self.now c.loop-act.self c.send_here.new.self c.args.acts c.loop-act.acts _ _ before.done (acts_left _ _ _ _ c.in-Some.ensures.taken c.in-Send.is) c.send_here.ensures.sent;
    }

pub loop-act-preserved-in-PeerUp : goal.loop-act-preserved-in-PeerUp
loop-act-preserved-in-PeerUp g c =
    let before = c.loop-act.invariant in
    record {
      tells = way_then before.tells c.greet_waiting.ensures.tells;
      places = c.greet_waiting.ensures.places ∙ before.places;
      done = one_done c.args.place c.args.self.now c.loop-act.self c.greet_waiting.new.self c.args.acts c.loop-act.acts _ _ before.done (acts_left _ _ _ _ c.in-Some.ensures.taken c.in-PeerUp.is) c.greet_waiting.ensures.does;
    }

pub loop-act-preserved-in-PeerLeaves : goal.loop-act-preserved-in-PeerLeaves
loop-act-preserved-in-PeerLeaves g c =
    let before = c.loop-act.invariant in
    record {
      tells = way_then before.tells c.tell_leaving.ensures.tells;
      places = c.tell_leaving.ensures.places ∙ before.places;
      done = one_done c.args.place c.args.self.now c.loop-act.self c.tell_leaving.new.self c.args.acts c.loop-act.acts _ _ before.done (acts_left _ _ _ _ c.in-Some.ensures.taken c.in-PeerLeaves.is) c.tell_leaving.ensures.does;
    }

pub loop-act-preserved-in-Pass : goal.loop-act-preserved-in-Pass
loop-act-preserved-in-Pass g c =
    let before = c.loop-act.invariant in
    record {
      tells = way_then before.tells c.tell_message.ensures.tells;
      places = c.tell_message.ensures.places ∙ before.places;
      done = one_done c.args.place c.args.self.now c.loop-act.self c.tell_message.new.self c.args.acts c.loop-act.acts _ _ before.done (acts_left _ _ _ _ c.in-Some.ensures.taken c.in-Pass.is) c.tell_message.ensures.does;
    }

pub loop-act-preserved : goal.loop-act-preserved
loop-act-preserved g c =
    let before = c.loop-act.invariant in
    record {
      tells = way_then before.tells (no_way _ _ c.end_here.ensures.kept);
      places = c.end_here.ensures.places ∙ before.places;
      done = one_done c.args.place c.args.self.now c.loop-act.self c.end_here.new.self c.args.acts c.loop-act.acts _ _ before.done (acts_left _ _ _ _ c.in-Some.ensures.taken c.in-Drop.is) c.end_here.ensures.ended;
    }
