-- Worked examples, by hand: a day of the row site, at each front of which one request may wait.
use Rattle.std.specs.Prelude.{ℕ, true, List, [], ◌∷◌, ◌*◌}
use Rattle.dia_base.specs.declared.number.Moment.{Moment}
use Rattle.dia_message.specs.declared.message.Message.{Message}
use Rattle.cc_view.specs.FirstDebit.{debit_message}
use Rattle.farm_base.specs.declared.step.Step.{Step}
use Rattle.farm_base.specs.declared.step.Step.TheVariants as step
use Rattle.farm_base.specs.declared.site.Site.{Site}
use Rattle.farm_base.specs.RowSite.{c1, f1, f2, r1, the_row_site}
use Rattle.pool_law.specs.ServedFarm.{Happening}
use Rattle.pool_law.specs.ServedFarm.{elsewhere, hands_over, turns_away, takes, charges, hands_out, dies}

-- the debit, under another Hop-by-Hop Identifier
abbrev pub debit : ℕ → Message
debit hop = record debit_message { header = record debit_message.header { hop = hop } }

abbrev pub second : ℕ → Moment
second n = record { 0 = n * 1000 }

abbrev pub narrow_site : Site
narrow_site = record the_row_site { queue = 1 }

abbrev pub a_day : List Happening
a_day =
    -- the client has connections with f1 and with r1, and r1 one with f2
    elsewhere (step.Up c1 f1) ∷ elsewhere (step.Up c1 r1) ∷ elsewhere (step.Up r1 f2)
    -- a debit is handed over at f1, as its first job
    ∷ elsewhere (step.Send c1 f1 (debit 7)) ∷ hands_over c1 f1 0 1
    -- another one is turned away, since the first one waits
    ∷ elsewhere (step.Send c1 f1 (debit 8)) ∷ turns_away c1 f1 0
    -- a worker of f1 takes the first; the client sends it over r1 too, and a worker of f2 takes it there
    ∷ takes f1 1 ∷ elsewhere (step.Send c1 r1 (debit 9)) ∷ elsewhere (step.Deliver c1 r1 0) ∷ hands_over r1 f2 0 1 ∷ takes f2 1
    -- the worker of f2 has the lock first, and the debit is charged; that of f1 finds it kept
    ∷ charges f2 1 (second 1) true ∷ charges f1 1 (second 1) true
    -- the connection of f1 ends, so that its answer goes nowhere; that of f2 goes out
    ∷ elsewhere (step.Drop f1 c1) ∷ hands_out f1 1 ∷ hands_out f2 1
    -- one more is charged, and the process of both fronts dies before its answer is handed out
    ∷ elsewhere (step.Send c1 r1 (debit 10)) ∷ elsewhere (step.Deliver c1 r1 0) ∷ hands_over r1 f2 0 2 ∷ takes f2 2 ∷ charges f2 2 (second 2) true
    ∷ dies f1 ∷ dies f2
    -- r1 learns it, and the process that has gone on comes up; there the numbers of jobs begin anew
    ∷ elsewhere (step.Drop r1 f2) ∷ elsewhere (step.Up r1 f2)
    ∷ elsewhere (step.Send c1 r1 (debit 11)) ∷ elsewhere (step.Deliver c1 r1 0) ∷ hands_over r1 f2 0 1 ∷ takes f2 1 ∷ charges f2 1 (second 3) true
    ∷ hands_out f2 1 ∷ []

abbrev pub steps_of_the_day : List Step
steps_of_the_day =
    step.Up c1 f1 ∷ step.Up c1 r1 ∷ step.Up r1 f2
    ∷ step.Send c1 f1 (debit 7) ∷ step.Deliver c1 f1 0
    ∷ step.Send c1 f1 (debit 8) ∷ step.Deliver c1 f1 0
    ∷ step.Pick f1 1 ∷ step.Send c1 r1 (debit 9) ∷ step.Deliver c1 r1 0 ∷ step.Deliver r1 f2 0 ∷ step.Pick f2 1
    ∷ step.Charge f2 1 (second 1) ∷ step.Charge f1 1 (second 1)
    ∷ step.Drop f1 c1 ∷ step.Emit f1 1 ∷ step.Emit f2 1
    ∷ step.Send c1 r1 (debit 10) ∷ step.Deliver c1 r1 0 ∷ step.Deliver r1 f2 0 ∷ step.Pick f2 2 ∷ step.Charge f2 2 (second 2)
    ∷ step.Crash f1 ∷ step.Crash f2
    ∷ step.Drop r1 f2 ∷ step.Up r1 f2
    ∷ step.Send c1 r1 (debit 11) ∷ step.Deliver c1 r1 0 ∷ step.Deliver r1 f2 0 ∷ step.Pick f2 1 ∷ step.Charge f2 1 (second 3)
    ∷ step.Emit f2 1 ∷ []

-- A morning, at f1 alone: a debit is charged, one is turned away, one that is sent again is answered, and the answer of the first goes
-- nowhere, since its connection has ended before it is handed out. Then the process dies.
abbrev pub a_morning : List Happening
a_morning =
    elsewhere (step.Up c1 f1)
    ∷ elsewhere (step.Send c1 f1 (debit 7)) ∷ hands_over c1 f1 0 1
    ∷ elsewhere (step.Send c1 f1 (debit 8)) ∷ turns_away c1 f1 0
    ∷ takes f1 1 ∷ charges f1 1 (second 1) true
    ∷ elsewhere (step.Send c1 f1 (debit 9)) ∷ hands_over c1 f1 0 2 ∷ takes f1 2 ∷ charges f1 2 (second 2) true ∷ hands_out f1 2
    ∷ elsewhere (step.Drop f1 c1) ∷ hands_out f1 1
    ∷ dies f1 ∷ dies f2 ∷ []
