use Rattle.std.proofs.Common.{rules, Bor, ◌≡◌, List, Some, refl, sym, ap, ◌∙◌, inr, codes, map}
use Rattle.clap.specs.Walk.{Text, all_of}
use Rattle.clap.specs.Words.{found_of, rows_of}
use Rattle.clap.proofs.WalkLemmas.{raw_values-rows}
use Rattle.farm_command.proofs.reading.records_in.Goals as goal
use Rattle.farm_command.proofs.Operands.{none_first}

pub returns-in_default-clause-fault : goal.returns-in_default-clause-fault
returns-in_default-clause-fault c =
    inr (refl, none_first (codes "records") (rows_of (found_of c.args.found.now)) (sym (raw_values-rows (found_of c.args.found.now) (codes "records")) ∙ sym c.in_default.ensures))

pub returns-in-Ok-clause-value : goal.returns-in-Ok-clause-value
returns-in-Ok-clause-value c =
    let found : all_of (codes "records") (rows_of (found_of c.args.found.now)) ≡ Some (map (λ s. s.now) c.in-Some.records.now) =
    sym (raw_values-rows (found_of c.args.found.now) (codes "records")) ∙ sym c.in-Some.ensures in
    let copied : c.in-Some.records.now ≡ c.in-Ok.records.items = search rules in
    found ∙ ap (λ (records : List (Bor Text)). Some (map (λ s. s.now) records)) copied
