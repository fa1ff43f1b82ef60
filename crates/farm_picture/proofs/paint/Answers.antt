use Rattle.farm_picture.specs.Painting.{GivesSchedule}
use Rattle.farm_picture.proofs.Cutting.{gives_schedule, on_all}
use Rattle.farm_picture.proofs.paint.Goals as goal

pub returns-clause-ok : goal.returns-clause-ok
returns-clause-ok g c =
    let known = g.R.Read.remaining c.args.reader.now in
    on_all c.write_picture.result (GivesSchedule c.args.site.now known)
    (gives_schedule c.args.site.now known c.in_ok-text.text.items c.deref.result.now c.in_ok-text.ensures.text c.deref.ensures.value c.in_ok-picture.ensures)
