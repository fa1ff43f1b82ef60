use Rattle.std.proofs.Common.{List, sym, subst, ◌∙◌}
use Rattle.std.proofs.lemmas.Bool.{eqb-true}
use Rattle.dia_avp.specs.declared.avp.RawAvp.{RawAvp}
use Rattle.dia_grammar.specs.Profile.{profile_of}
use Rattle.cc_view.specs.Finding.{Passes}
use Rattle.cc_view.specs.Refusal.{grammar_refusal}
use Rattle.cc_view.proofs.Counting.{counted-nothing}
use Rattle.cc_view.proofs.view.refusals.check_grammar.Goals as goal

pub returns-then-tolerates_nothing : goal.returns-then-tolerates_nothing
returns-then-tolerates_nothing g c =
    let profile = profile_of c.args.profile in
    let none = counted-nothing profile c.args.avps.now (eqb-true _ _ (sym c.tolerates_nothing.ensures ∙ c.if-tolerates_nothing.true)) in
    subst (λ (x : List RawAvp). Passes (grammar_refusal profile x) c.check_counted.result) (sym none) c.check_counted.ensures
