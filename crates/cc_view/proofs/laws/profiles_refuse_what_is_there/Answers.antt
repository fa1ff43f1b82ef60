use Rattle.cc_view.proofs.NamedAvps.{failed-named}
use Rattle.cc_view.proofs.Readable.{viewed-readable}
use Rattle.cc_view.proofs.Shortness.{failed-short}
use Rattle.cc_view.proofs.laws.profiles_refuse_what_is_there.Goals as goal

pub returns-clause-readable : goal.returns-clause-readable
returns-clause-readable c = viewed-readable

pub returns-clause-there : goal.returns-clause-there
returns-clause-there c = failed-named

pub returns-clause-short : goal.returns-clause-short
returns-clause-short c = failed-short
