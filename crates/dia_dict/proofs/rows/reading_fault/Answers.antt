use Rattle.std.proofs.Common.{ℕ, List, ap, ◌∙◌}
use Rattle.dia_dict.specs.Dictionary.{entry_of}
use Rattle.dia_dict.specs.Values.{value_fault}
use Rattle.dia_dict.proofs.Judging.{fault-of_row, fault-without_row}
use Rattle.dia_dict.proofs.rows.reading_fault.Goals as goal

pub returns-in-Some : goal.returns-in-Some
returns-in-Some c =
    c.value_fault.ensures
    ∙ ap (λ (octets : List ℕ). value_fault c.in-Some.row.kind c.args.avp.now.code octets) c.as_slice.ensures
    ∙ fault-of_row c.args.avp.now (entry_of c.in-Some.row) c.in-Some.ensures

pub returns-in-None : goal.returns-in-None
returns-in-None c = fault-without_row c.args.avp.now c.in-None.ensures
