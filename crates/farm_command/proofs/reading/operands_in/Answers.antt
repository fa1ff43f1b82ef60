use Rattle.std.proofs.Common.{◌≡◌, List, Some, None, refl, subst, sym, ap, ◌∙◌, ◌⊎◌, inl, inr, codes, map}
use Rattle.std.proofs.lemmas.Result.{IfErr-weaker, IfOk-weaker}
use Rattle.clap.specs.Walk.{Text, all_of}
use Rattle.clap.specs.Words.{found_of, rows_of}
use Rattle.clap.proofs.WalkLemmas.{raw_values-rows}
use Rattle.farm_command.specs.declared.fault.CliFault.{CliFault}
use Rattle.farm_command.specs.declared.fault.CliFault.TheVariants as fault
use Rattle.farm_command.specs.declared.subcommand.Subcommand.TheVariants as sub
use Rattle.farm_command.specs.declared.word.Word.TheVariants as word
use Rattle.farm_command.specs.Asked.{AreFew, AreWrong, IsFaultOf}
use Rattle.farm_command.proofs.reading.operands_in.Goals as goal

pub returns-in_default-clause-fault : goal.returns-in_default-clause-fault
returns-in_default-clause-fault c =
    let none : all_of (codes "task-and-file") (rows_of (found_of c.args.found.now)) ≡ None =
    sym (raw_values-rows (found_of c.args.found.now) (codes "task-and-file")) ∙ sym c.in_default.ensures in
    (refl, subst AreFew (sym none) tt)

pub returns-clause-value : goal.returns-clause-value
returns-clause-value c =
    let found : all_of (codes "task-and-file") (rows_of (found_of c.args.found.now)) ≡ Some (map (λ s. s.now) c.in-Some.operands.now) =
    sym (raw_values-rows (found_of c.args.found.now) (codes "task-and-file")) ∙ sym c.in-Some.ensures in
    IfOk-weaker c.task_and_file.result _ _ (λ read h. found ∙ ap (λ (texts : List Text). Some texts) h) c.task_and_file.ensures.value

pub returns-clause-fault : goal.returns-clause-fault
returns-clause-fault c =
    let rows = rows_of (found_of c.args.found.now) in
    let operands = map (λ s. s.now) c.in-Some.operands.now in
    let found : all_of (codes "task-and-file") rows ≡ Some operands =
    sym (raw_values-rows (found_of c.args.found.now) (codes "task-and-file")) ∙ sym c.in-Some.ensures in
    let told : (f : CliFault) → ((f ≡ fault.Missing word.TaskAndFile) × AreFew (Some operands)) ⊎ ((f ≡ fault.Malformed word.TaskAndFile) × AreWrong (Some operands)) → IsFaultOf sub.Book rows f =
    λ f h.
    elim h [
      | inl few ↦ subst (IsFaultOf sub.Book rows) (sym few.0) (refl, subst AreFew (sym found) few.1)
      | inr wrong ↦ subst (IsFaultOf sub.Book rows) (sym wrong.0) (refl, subst AreWrong (sym found) wrong.1)
    ] in
    IfErr-weaker c.task_and_file.result _ _ told c.task_and_file.ensures.fault
