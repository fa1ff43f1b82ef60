use Rattle.std.proofs.Common.{List, ℕ, subst, take}
use Rattle.std.specs.Io.KnownBytes.{Appends}
use Rattle.farm_net.proofs.Streams.{HasWritten-more}
use Rattle.farm_net.proofs.turn.write_turn.Goals as goal

pub loop-preserved : goal.loop-preserved
loop-preserved g c =
    let contents = g.W.Write.contents in
    HasWritten-more (contents c.args.writer.now) (contents c.loop.writer) (contents c.write.new.self) c.args.outbox.now.items c.loop.outbox.items
    c.advance.new.self.items c.in-Ok.count c.loop.invariant
    (subst (λ (xs : List ℕ). Appends (contents c.loop.writer) (contents c.write.new.self) (take c.in-Ok.count xs)) c.as_slice.ensures c.in-Ok.ensures.bytes)
    c.advance.ensures.items
