use Rattle.std.proofs.Common.{arith, ℕ, List, length, ◌-◌, ◌+◌}
use Rattle.dia_avp.specs.AvpList.{length_in, padding_of}
use Rattle.dia_avp.proofs.Cuts.{behind-at}
use Rattle.dia_avp.proofs.Reading.{Begins-push, BeginsWith-shorter}
use Rattle.dia_avp.proofs.view.cuts_of.Goals as goal

pub loop-rest-preserved : goal.loop-rest-preserved
loop-rest-preserved c =
    let found = c.in_ok-avp.ensures.found in
    let rest : List ℕ = c.loop-rest.rest.now in
    let behind : List ℕ = c.in_ok-avp.behind.now in
    let shorter = BeginsWith-shorter rest c.in_ok-avp.avp behind found in
    let pushed = Begins-push c.args.buffer.now c.loop-rest.avps.items rest c.in_ok-avp.avp behind c.loop-rest.invariant.begins found in
    record {
      begins = rw c.in_ok-push.ensures.items pushed;
      within = omega arith;
      there = behind-at (length c.args.buffer.now - length rest) (length_in rest + padding_of (length_in rest)) c.args.buffer.now rest behind
          c.loop-rest.invariant.there found.behind;
    }
