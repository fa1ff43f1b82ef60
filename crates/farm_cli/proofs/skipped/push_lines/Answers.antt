use Rattle.std.proofs.Common.{◌≡◌, ◌+◌, ◌<◌, List, [], ◌∷◌, ◌++◌, length, map, take, get_or, ℕ, sym, ap, ◌∙◌, arith, append_assoc}
use Rattle.std.specs.List.{flat_map}
use Rattle.std.proofs.lemmas.List.{take_more}
use Rattle.farm_cli.specs.Skipped.{skipped_line}
use Rattle.farm_cli.proofs.Printing.{flat_map-push}
use Rattle.farm_cli.proofs.skipped.push_lines.Goals as goal

pub loop-number-preserved : goal.loop-number-preserved
loop-number-preserved c =
    let numbers = c.args.numbers.now in
    let at = c.loop-number.number-index in
    let line = skipped_line (map (λ line. line.now) c.args.said.now) in
    let item = get_or numbers at 0 in
    let within : at < length numbers = omega arith in
    let more : take (at + 1) numbers ≡ take at numbers ++ item ∷ [] = take_more numbers at 0 within in
    c.in_ok-push_line.ensures
    ∙ ap (λ (out : List ℕ). out ++ line item) c.loop-number.invariant
    ∙ (append_assoc c.args.out.now.items (flat_map line (take at numbers)) (line item)
    ∙ ap (λ (lines : List ℕ). c.args.out.now.items ++ lines) (sym (ap (flat_map line) more ∙ flat_map-push line (take at numbers) item)))
