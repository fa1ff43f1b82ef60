use Rattle.std.proofs.Common.{rules, ◌≡◌, ◌+◌, ◌≤◌, length, arith}
use Rattle.farm_text.proofs.Streams.{read_end, read_up_to, reads-text, taken_nothing}
use Rattle.farm_text.proofs.reading.read_up_to.Goals as goal

pub returns-clause-text : goal.returns-clause-text
returns-clause-text g c =
    let is : c.len.result ≡ length c.loop-piece.text.items = search rules in
    let long : length c.loop-piece.text.items ≤ c.args.limit + 1 = search rules in
    let all : length c.loop-piece.text.items ≡ c.args.limit + 1 = omega arith in
    read_up_to (c.args.limit + 1) (g.R.Read.remaining c.args.reader.now) (g.R.Read.remaining c.loop-piece.reader) c.loop-piece.text.items c.loop-piece.invariant.read all

pub returns-then-count-eq0-clause-text : goal.returns-then-count-eq0-clause-text
returns-then-count-eq0-clause-text g c =
    let remaining = g.R.Read.remaining in
    let none : c.in-Ok.count ≡ 0 = omega arith in
    let short : length c.loop-piece.text.items ≤ c.args.limit + 1 = search rules in
    read_end (c.args.limit + 1) (remaining c.args.reader.now) (remaining c.loop-piece.reader) (remaining c.read_some.new.reader) c.loop-piece.text.items c.read_some.new.piece c.in-Ok.count none c.loop-piece.invariant.read c.in-Ok.ensures.octets c.in-Ok.ensures.end short

pub returns-clause-read : goal.returns-clause-read
returns-clause-read g c =
    let remaining = g.R.Read.remaining in
    reads-text c.args.limit (remaining c.args.reader.now) (remaining c.loop-piece.reader) c.loop-piece.text.items (returns-clause-text g c) c.loop-piece.invariant.read

pub returns-then-count-eq0-clause-read : goal.returns-then-count-eq0-clause-read
returns-then-count-eq0-clause-read g c =
    let remaining = g.R.Read.remaining in
    let none : c.in-Ok.count ≡ 0 = omega arith in
    reads-text c.args.limit (remaining c.args.reader.now) (remaining c.read_some.new.reader) c.loop-piece.text.items (returns-then-count-eq0-clause-text g c)
    (taken_nothing (remaining c.args.reader.now) (remaining c.loop-piece.reader) (remaining c.read_some.new.reader) c.loop-piece.text.items c.read_some.new.piece c.in-Ok.count none c.loop-piece.invariant.read c.in-Ok.ensures.octets)
