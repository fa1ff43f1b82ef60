use Rattle.std.proofs.Common.{arith, sym, ◌∙◌, below_more}
use Rattle.dia_dict.proofs.Naming.{passed_all, none_at_zero, same_code, other_code, nameless}
use Rattle.dia_dict.proofs.rows.code_of_name.Goals as goal
use Rattle.dia_dict.proofs.rows.code_of_name.Goals.{in-Some+else-eq, in_default}

pub loop-number-init : goal.loop-number-init
loop-number-init c = none_at_zero c.args.name.now

pub returns-then-eq : goal.returns-then-eq
returns-then-eq c =
    sym (same_code c.loop-number.number c.in-Some.known.now c.args.name.now c.in-Some.ensures (sym c.eq.ensures ∙ c.if-eq.true))

pub loop-number-preserved : goal.loop-number-preserved
loop-number-preserved c =
    below_more _ _ c.loop-number.invariant
    (elim c.match-name_of.branch [
      | in-Some+else-eq w ↦ other_code c.loop-number.number w.in-Some.known.now c.args.name.now w.in-Some.ensures (sym w.eq.ensures ∙ w.if-eq.false)
      | in_default w ↦ nameless c.loop-number.number c.args.name.now w.in_default.ensures
    ])

pub returns : goal.returns
returns c = sym (passed_all c.args.name.now c.loop-number.number (omega arith) c.loop-number.invariant)
