use Rattle.std.proofs.Common.{◌≡◌, ◌==◌, rules, drop, take, position, Some, None, refl, ap, ◌∙◌, List, ℕ}
use Rattle.record_reader.proofs.Pieces.{no_feed, taken_line}
use Rattle.record_reader.proofs.lines.RecordLines.take_line.Goals as goal

pub returns-in_default-clause-taken : goal.returns-in_default-clause-taken
returns-in_default-clause-taken g c =
    let none : position (λ octet. octet == 10) (drop c.args.self.now.given c.args.self.now.rest.items) ≡ None = cc in
    (refl, no_feed _ none)

pub returns-clause-taken : goal.returns-clause-taken
returns-clause-taken g c =
    let found : position (λ octet. octet == 10) (drop c.args.self.now.given c.args.self.now.rest.items) ≡ Some c.in-Some.at = cc in
    let line : c.in_ok-line.line.items ≡ take c.in-Some.at (drop c.args.self.now.given c.args.self.now.rest.items) =
    c.in_ok-line.ensures.items ∙ ap (λ (unread : List ℕ). take c.in-Some.at unread) c.unread-unread.ensures in
    taken_line c.args.self.now.rest.items c.in_ok-line.line.items c.args.self.now.given c.in-Some.at c.saturating_add-self.result (search rules) found line (search rules)
