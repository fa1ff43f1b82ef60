use Rattle.std.proofs.Common.{drop}
use Rattle.std.specs.Io.KnownBytes.{prepend_known}
use Rattle.record_reader.specs.NextEvent.{SaysTheSame}
use Rattle.record_reader.proofs.group.Groups.next_event.Given as goal

abbrev pub invariant-loop : goal.invariant-loop
invariant-loop g l =
    SaysTheSame l.site (prepend_known (drop l.initial.self.lines.given l.initial.self.lines.rest.items) (g.R.Read.remaining l.initial.self.lines.reader))
    (prepend_known (drop l.self.lines.given l.self.lines.rest.items) (g.R.Read.remaining l.self.lines.reader))
