use Rattle.std.proofs.Common.{◌≡◌, rules, false}
use Rattle.record_reader.proofs.Pieces.{line_given, none_left}
use Rattle.record_reader.proofs.lines.RecordLines.next_line.Goals as goal

pub returns-in-Some : goal.returns-in-Some
returns-in-Some g c =
    line_given _ (g.R.Read.remaining c.loop.self.reader) _ _ _ c.in_ok-line.field-0 c.in-Some.line c.loop.invariant c.in_ok-line.ensures.taken c.in-Some.is (search rules)

pub returns-then-not-branch : goal.returns-then-not-branch
returns-then-not-branch g c =
    let ends : c.in_ok-read_more.field-0 ≡ false = search rules in
    none_left _ (g.R.Read.remaining c.loop.self.reader) (g.R.Read.remaining c.let_go.new.self.reader) (g.R.Read.remaining c.read_more.new.self.reader) _ _ _ _ c.in_ok-line.field-0 c.in_ok-read_more.field-0 c.loop.invariant c.in_ok-line.ensures.taken (search rules) (search rules) c.in_ok-read_more.ensures.more ends
