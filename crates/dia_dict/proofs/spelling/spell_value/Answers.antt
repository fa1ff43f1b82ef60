use Rattle.std.proofs.Common.{sym, ◌∙◌}
use denote.Enum.Bare.{differs_false}
use Rattle.dia_dict.specs.contracts.row.Kind.{the_type}
use Rattle.dia_dict.proofs.ReadBack.{spells_of_kind}
use Rattle.dia_dict.proofs.spelling.spell_value.Goals as goal

pub returns : goal.returns
returns c =
    spells_of_kind c.args.kind c.args.code c.args.value.now c.args.out.now.items c.spell_as_is.new.out.items c.spell_as_is.result
    (sym c.kind.ensures ∙ differs_false the_type tt _ _ (sym c.if-ne.ensures)) c.spell_as_is.ensures.range c.spell_as_is.ensures.ok c.spell_as_is.ensures.fault c.spell_as_is.ensures.err
