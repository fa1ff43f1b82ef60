use Rattle.std.proofs.Common.{All, arith, subst, sym}
use Rattle.std.proofs.lemmas.Grind.{common_steps}
use Rattle.std.proofs.lemmas.List.Elements.{All-append}
use Rattle.farm_picture.specs.Escape.{IsNoMarkup}
use Rattle.farm_picture.proofs.escape.escaped.Goals as goal

pub loop-octet-preserved : goal.loop-octet-preserved
loop-octet-preserved c = record {
  text = grind (arith, common_steps);
  plain = subst (All IsNoMarkup) (sym c.in_ok-push_escape.ensures.text) (All-append IsNoMarkup _ _ c.loop-octet.invariant.plain c.push_escape.ensures.plain);
}
