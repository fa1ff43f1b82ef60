use Rattle.farm_report.proofs.heading.Goals as goal

pub returns : goal.returns
returns c = rw (← c.open_sessions-open.ensures, ← c.history.ensures.entries) c.format.ensures.ok
