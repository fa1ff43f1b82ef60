use Rattle.std.proofs.Common.{◌≡◌, take}
use Rattle.std.specs.Prelude.{map}
use Rattle.front_core.specs.FrontRun.{run_of}
use Rattle.front_core.proofs.FrontRuns.{items_of, run_at}
use Rattle.front_core.proofs.front.Front.run.Given as goal

-- so far it is the run of the events so far
abbrev pub invariant-loop-event : goal.invariant-loop-event
invariant-loop-event g l = run_of l.site l.fn.book (take l.event-index l.events) ≡ run_at l.front l.book (map items_of l.outs.items)
