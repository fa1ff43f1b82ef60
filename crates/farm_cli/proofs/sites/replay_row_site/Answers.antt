use Rattle.std.proofs.Common.{ℕ, List, subst}
use Rattle.std.specs.Prelude.{OnOk, IfSome}
use Rattle.std.specs.Io.KnownBytes.{Appends}
use Rattle.farm_base.specs.declared.site.Site.{Site}
use Rattle.farm_cli.specs.Replay.{Replays, IsRefused}
use Rattle.farm_text.specs.Writing.{BeginsWriting}
use Rattle.farm_cli.proofs.sites.replay_row_site.Goals as goal

pub returns-clause-ok : goal.returns-clause-ok
returns-clause-ok g c =
    let stream = g.R.Read.remaining c.args.reader.now in
    let before = g.W.Write.contents c.args.writer.now in
    let after = g.W.Write.contents c.replay_io.new.writer in
    subst (λ (site : Site). OnOk c.replay_io.result (IfSome stream (λ octets. (printed : List ℕ) × Replays c.args.action site octets printed × Appends before after printed))) c.in-Ok.ensures c.replay_io.ensures.ok

pub returns-clause-script : goal.returns-clause-script
returns-clause-script g c = λ fault is.
    let stream = g.R.Read.remaining c.args.reader.now in
    subst (λ (site : Site). IfSome stream (λ octets. IsRefused site octets fault)) c.in-Ok.ensures (c.replay_io.ensures.script fault is)

pub returns-clause-write : goal.returns-clause-write
returns-clause-write g c = λ is.
    let stream = g.R.Read.remaining c.args.reader.now in
    let before = g.W.Write.contents c.args.writer.now in
    let after = g.W.Write.contents c.replay_io.new.writer in
    subst (λ (site : Site). IfSome stream (λ octets. (printed : List ℕ) × Replays c.args.action site octets printed × BeginsWriting before after printed)) c.in-Ok.ensures (c.replay_io.ensures.write is)
