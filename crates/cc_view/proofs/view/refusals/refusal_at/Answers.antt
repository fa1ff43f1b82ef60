use Rattle.std.proofs.Common.{Some, sym, ap, ◌∙◌}
use Rattle.std.proofs.lemmas.Option.{slice_get-get_or}
use Rattle.std.specs.Option.{option_map}
use Rattle.dia_avp.specs.declared.avp.RawAvp.{RawAvp}
use Rattle.cc_view.specs.Refusal.{refusal_for}
use Rattle.cc_view.proofs.Findings.{Passes-refused}
use Rattle.cc_view.proofs.view.refusals.refusal_at.Goals as goal

pub returns : goal.returns
returns c =
    let avp = c.index-avps-at.result in
    let here = slice_get-get_or c.args.avps.now c.args.at avp c.requires ∙ ap (λ (x : RawAvp). Some x) (sym c.index-avps-at.is) in
    Passes-refused _ _ _ (ap (option_map (refusal_for c.args.code)) here) c.refusal_for.ensures
