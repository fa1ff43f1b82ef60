use Rattle.cc_view.proofs.Findings.{GivesAll-refused}
use Rattle.cc_view.proofs.Splits.{listed-ok, listed-err}
use Rattle.cc_view.proofs.view.refusals.avps_by.Goals as goal

pub returns-in-Ok : goal.returns-in-Ok
returns-in-Ok c = listed-ok c.args.octets.now c.args.split c.in-Ok.avps c.requires c.in-Ok.is

pub returns-in_default : goal.returns-in_default
returns-in_default c =
    GivesAll-refused _ _ _ (listed-err c.args.octets.now c.args.split c.in-Err.fault c.requires c.in-Err.is c.in_default.not-OutOfMemory) c.refusal_of_octets.ensures
