use Rattle.std.proofs.Common.{drop}
use Rattle.std.specs.Io.KnownBytes.{Keeps, prepend_known}
use Rattle.record_reader.proofs.lines.RecordLines.next_line.Given as goal

abbrev pub invariant-loop : goal.invariant-loop
invariant-loop g l =
    Keeps (prepend_known (drop l.initial.self.given l.initial.self.rest.items) (g.R.Read.remaining l.initial.self.reader))
    (prepend_known (drop l.self.given l.self.rest.items) (g.R.Read.remaining l.self.reader))
