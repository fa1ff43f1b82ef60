use Rattle.std.proofs.Common.{◌≡◌, [], Option, Ok, Err, IfOk, IfErr, subst, sym, ap, ◌∙◌, List, ◌⊎◌, map, string_bytes, inl, inr}
use Rattle.std.proofs.lemmas.Result.{IfErr-weaker}
use Rattle.clap.specs.Kinds.{HasKind}
use Rattle.clap.specs.Walk.{Row, Text}
use Rattle.clap.specs.Words.{App, HasMatchesOf, fault_of, is_simple_and_free, subcommand_of, takes}
use Rattle.farm_command.specs.CommandLine.{command_line}
use Rattle.farm_command.specs.Asked.{IsFaultIn, IsReadFrom, IsUnknown}
use Rattle.farm_command.proofs.CommandLines.{entered_is_known, line_is_free, line_is_simple, never_unknown, no_memory_in}
use Rattle.farm_command.proofs.reading.command_of.Goals as goal

pub returns-in_default-clause-taken : goal.returns-in_default-clause-taken
returns-in_default-clause-taken c =
    let words = map string_bytes c.args.words.now in
    λ taken. no_memory_in (subcommand_of command_line words) (entered_is_known words)

pub returns-in-Ok-try_get_matches_from-clause-passes :
    goal.returns-in-Ok-try_get_matches_from-clause-passes
returns-in-Ok-try_get_matches_from-clause-passes c =
    let words = map string_bytes c.args.words.now in
    let free = c.in-Ok-try_get_matches_from.ensures.kinds (ap is_simple_and_free c.in-Ok.ensures ∙ line_is_free) in
    let none : fault_of command_line words ≡ [] = ap (λ (line : App). fault_of line words) (sym c.in-Ok.ensures) ∙ free in
    elim c.command_in.result as (λ r. IfOk r (λ command. fault_of command_line words ≡ [])) [ Ok command ↦ none | Err f ↦ tt ]

pub returns-in-Ok-try_get_matches_from-clause-read :
    goal.returns-in-Ok-try_get_matches_from-clause-read
returns-in-Ok-try_get_matches_from-clause-read c =
    let words = map string_bytes c.args.words.now in
    let has = subst (λ (line : App). HasMatchesOf line words c.in-Ok-try_get_matches_from.found) c.in-Ok.ensures c.in-Ok-try_get_matches_from.ensures.matches in
    subst (λ (rows : Option (Text × List Row)). IfOk c.command_in.result (IsReadFrom rows)) (has line_is_simple).1 c.command_in.ensures.command

pub returns-in-Ok-try_get_matches_from-clause-taken :
    goal.returns-in-Ok-try_get_matches_from-clause-taken
returns-in-Ok-try_get_matches_from-clause-taken c =
    let words = map string_bytes c.args.words.now in
    let entered = subcommand_of command_line words in
    let has = subst (λ (line : App). HasMatchesOf line words c.in-Ok-try_get_matches_from.found) c.in-Ok.ensures c.in-Ok-try_get_matches_from.ensures.matches in
    let told = subst (λ (rows : Option (Text × List Row)). IfErr c.command_in.result (λ f. IsFaultIn rows f ⊎ IsUnknown rows)) (has line_is_simple).1 c.command_in.ensures.fault in
    λ taken. IfErr-weaker c.command_in.result _ _ (λ f. never_unknown {A = IsFaultIn entered f} entered (entered_is_known words)) told

pub returns-in-Ok-try_get_matches_from-clause-refused :
    goal.returns-in-Ok-try_get_matches_from-clause-refused
returns-in-Ok-try_get_matches_from-clause-refused c =
    let words = map string_bytes c.args.words.now in
    let entered = subcommand_of command_line words in
    let has = subst (λ (line : App). HasMatchesOf line words c.in-Ok-try_get_matches_from.found) c.in-Ok.ensures c.in-Ok-try_get_matches_from.ensures.matches in
    let told = subst (λ (rows : Option (Text × List Row)). IfErr c.command_in.result (λ f. IsFaultIn rows f ⊎ IsUnknown rows)) (has line_is_simple).1 c.command_in.ensures.fault in
    IfErr-weaker c.command_in.result _ _ (λ f h. inr (never_unknown {A = IsFaultIn entered f} entered (entered_is_known words) h)) told

pub returns-in-Err-clause-taken : goal.returns-in-Err-clause-taken
returns-in-Err-clause-taken c =
    let words = map string_bytes c.args.words.now in
    let entered = subcommand_of command_line words in
    λ taken.
    let memory = c.in-Err.ensures.passes (ap (λ (line : App). takes line words) c.in-Ok.ensures ∙ taken) in
    subst (IsFaultIn entered) (sym (c.fault_of.ensures.memory memory)) (no_memory_in entered (entered_is_known words))

pub returns-in-Err-clause-refused : goal.returns-in-Err-clause-refused
returns-in-Err-clause-refused c =
    let words = map string_bytes c.args.words.now in
    let failed = c.in-Err.ensures.kinds (ap is_simple_and_free c.in-Ok.ensures ∙ line_is_free) in
    inl (c.fault_of.ensures.told (fault_of command_line words) (subst (λ (line : App). HasKind (fault_of line words) c.in-Err.error) c.in-Ok.ensures failed))
