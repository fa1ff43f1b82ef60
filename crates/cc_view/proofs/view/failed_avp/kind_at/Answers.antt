use Rattle.std.proofs.Common.{Bool, cond, eq-eqb, None, sym, ap, ◌∙◌}
use Rattle.std.proofs.lemmas.Bool.{ne_eqb}
use Rattle.dia_dict.specs.Dictionary.{kind_of}
use Rattle.cc_view.specs.Refusal.FailedAvp.{kind_at}
use Rattle.cc_view.proofs.view.failed_avp.kind_at.Goals as goal

pub returns-then-vendor-ne0 : goal.returns-then-vendor-ne0
unfolding kind_at
returns-then-vendor-ne0 c = sym (ap (λ (b : Bool). cond b (kind_of c.args.code) None) (ne_eqb c.args.vendor 0 c.if-vendor-ne0.true))

pub returns : goal.returns
unfolding kind_at
returns c = c.kind_of.ensures ∙ sym (ap (λ (b : Bool). cond b (kind_of c.args.code) None) (eq-eqb c.args.vendor 0 c.if-vendor-ne0.false))
