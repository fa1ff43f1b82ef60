use Rattle.std.proofs.Common.{◌≡◌, [], get_or, codes, sym, ◌∙◌}
use Rattle.std.proofs.lemmas.Slice.Eq.{bytes_eq-Decides}
use Rattle.farm_command.proofs.Operands.{three_operands}
use Rattle.farm_command.proofs.reading.task_and_file.Goals as goal

pub returns-in-len3-clause-value : goal.returns-in-len3-clause-value
returns-in-len3-clause-value c =
    let word : (get_or c.args.operands.now 0 (record { ref_ptr = (0, 0); now = [] })).now ≡ codes "backup" =
    (bytes_eq-Decides (get_or c.args.operands.now 0 (record { ref_ptr = (0, 0); now = [] })).now (codes "backup")).0 (sym c.eq.ensures ∙ c.if-eq.true) in
    three_operands c.args.operands.now (record { ref_ptr = (0, 0); now = [] }) (codes "backup") c.in-len3.len_at_least c.in-len3.len_below word
