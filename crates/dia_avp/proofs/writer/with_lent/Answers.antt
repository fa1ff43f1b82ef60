use Rattle.std.proofs.Common.{rules, ◌∙◌}
use Rattle.dia_avp.specs.LentAvp.{avp_of}
use Rattle.dia_avp.proofs.Writing.{with_avp-parts}
use Rattle.dia_avp.proofs.writer.with_lent.Goals as goal

pub returns-clause-ok : goal.returns-clause-ok
returns-clause-ok c =
    c.in_ok-shared.ensures
    ∙ with_avp-parts c.args.body.now (avp_of c.args.avp) c.in_ok-out.out.items c.extend_from_slice.new.self.items c.extend_from_slice-2.new.self.items c.write_avp.new.out.items c.padding_of.result
    (search rules) c.padding_of.ensures.most c.in_ok-out.ensures.items (search rules) (search rules) (search rules)
