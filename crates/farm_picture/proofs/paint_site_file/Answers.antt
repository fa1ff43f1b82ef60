use Rattle.std.proofs.lemmas.Result.{on_ok_weaker}
use Rattle.farm_picture.proofs.paint_site_file.Goals as goal

pub returns-in-Ok-clause-ok : goal.returns-in-Ok-clause-ok
returns-in-Ok-clause-ok g c =
    on_ok_weaker c.paint.result (λ gives. (c.in-Ok.site, c.in-Ok.ensures.checked, c.in-Ok.ensures.spelled, gives)) c.paint.ensures.ok
