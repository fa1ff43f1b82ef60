use Rattle.std.proofs.Common.{rules, List, ℕ, subst}
use Rattle.std.proofs.lemmas.Result.{on_ok_weaker}
use Rattle.std.specs.Io.KnownBytes.{Appends}
use Rattle.farm_text.specs.Writing.{BeginsWriting}
use Rattle.farm_cli.proofs.Cutting.{stream_names, stream_refused, stream_replays}
use Rattle.farm_cli.proofs.replay.replay_io.Goals as goal

pub returns-clause-ok : goal.returns-clause-ok
returns-clause-ok g c =
    let before = g.W.Write.contents c.args.writer.now in
    let after = g.W.Write.contents c.write_output.new.writer in
    on_ok_weaker c.write_output.result
    (λ done. stream_replays c.args.action c.args.site.now (g.R.Read.remaining c.args.reader.now) c.in_ok-text.text.items c.deref.result.now c.in_ok-printed.printed.items (λ printed. Appends before after printed) c.in_ok-text.ensures.text c.deref.ensures.value c.in_ok-printed.ensures.ok
    (subst (λ (xs : List ℕ). Appends before after xs) c.deref-2.ensures.value done))
    c.write_output.ensures.ok

pub returns-clause-named : goal.returns-clause-named
returns-clause-named g c =
    on_ok_weaker c.write_output.result
    (λ done. stream_names c.args.skipped c.args.site.now (g.R.Read.remaining c.args.reader.now) c.in_ok-text.text.items c.deref.result.now c.args.named.now.items c.replay_text.new.named.items c.in_ok-text.ensures.text c.deref.ensures.value c.in_ok-printed.ensures.named)
    c.write_output.ensures.ok

pub returns-clause-write : goal.returns-clause-write
returns-clause-write g c = λ failed.
    let before = g.W.Write.contents c.args.writer.now in
    let after = g.W.Write.contents c.write_output.new.writer in
    let begins = rw failed at c.write_output.ensures.err in
    stream_replays c.args.action c.args.site.now (g.R.Read.remaining c.args.reader.now) c.in_ok-text.text.items c.deref.result.now c.in_ok-printed.printed.items (λ printed. BeginsWriting before after printed) c.in_ok-text.ensures.text c.deref.ensures.value c.in_ok-printed.ensures.ok
    (subst (λ (xs : List ℕ). BeginsWriting before after xs) c.deref-2.ensures.value begins)

pub returns-in_err-printed-clause-script : goal.returns-in_err-printed-clause-script
returns-in_err-printed-clause-script g c = λ fault is.
    stream_refused c.args.site.now (g.R.Read.remaining c.args.reader.now) c.in_ok-text.text.items c.deref.result.now fault c.in_ok-text.ensures.text c.deref.ensures.value (c.in_err-printed.ensures.script fault (search rules))
