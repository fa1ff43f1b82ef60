use Rattle.std.proofs.Common.{sym, subst, List, ℕ}
use Rattle.farm_text.specs.Writing.{BeginsWithRest}
use Rattle.farm_text.proofs.Streams.{write_more}
use Rattle.farm_text.proofs.writing.write_text.Goals as goal

pub loop-rest-preserved-in-Ok : goal.loop-rest-preserved-in-Ok
loop-rest-preserved-in-Ok g c =
    let contents = g.W.Write.contents in
    let more = write_more (contents c.args.writer.now) (contents c.loop-rest.writer) (contents c.write.new.self) c.args.text.now c.loop-rest.rest.now c.in-Ok.count c.loop-rest.invariant.written c.in-Ok.ensures.bytes in
    record { tried = c.loop-rest.invariant.tried; written = subst (λ (rest : List ℕ). BeginsWithRest (contents c.args.writer.now) (contents c.write.new.self) c.args.text.now rest) (sym c.split_at.ensures.back) more }
