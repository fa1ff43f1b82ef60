use Rattle.std.proofs.Common.{rules}
use Rattle.cc_sweeper.proofs.Agreeing.{begins, hires_as}
use Rattle.cc_sweeper.proofs.desk.new_desk.Goals as goal

pub ruled-requires : goal.ruled-requires
ruled-requires g c = (search rules, (search rules, begins g.L.Sharing.shared))

pub split_pass-hand-requires : goal.split_pass-hand-requires
split_pass-hand-requires g c = (search rules, (search rules, (search rules, hires_as g.L.Sharing.shared _ _ c.in_ok-errand.ensures.1)))
