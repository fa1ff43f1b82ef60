use Rattle.std.proofs.Common.{sym, ◌∙◌}
use Rattle.farm_watch.proofs.Splits.{read-ok, read-err}
use Rattle.farm_watch.proofs.reading.readable.Goals as goal

pub returns-in-Ok : goal.returns-in-Ok
returns-in-Ok c = λ octets h. read-ok octets c.args.split c.in-Ok.avps h c.in-Ok.is

pub returns-in_default : goal.returns-in_default
returns-in_default c = λ octets h. c.new.ensures.items ∙ sym (read-err octets c.args.split c.in-Err.fault h c.in-Err.is c.in_default.not-OutOfMemory)
