use Rattle.std.proofs.Common.{◌≡◌, ◌∙◌, ap, Err}
use Rattle.farm_cli.specs.declared.replay.ReplayFault.TheVariants.{Script}
use Rattle.farm_cli.proofs.sites.replay_site_file.Goals as goal

pub returns-clause-script : goal.returns-clause-script
returns-clause-script g c = λ fault is.
    let same : c.in-Err-replay_io.fault ≡ Script fault = cc in
    (c.in-Ok.site, c.in-Ok.ensures.checked, c.in-Ok.ensures.spelled, c.replay_io.ensures.script fault (c.in-Err-replay_io.is ∙ ap Err same))
