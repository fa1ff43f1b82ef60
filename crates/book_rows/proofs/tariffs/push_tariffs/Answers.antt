use Rattle.std.proofs.Common.{List, subst, ap, ◌∙◌}
use Rattle.cc_rating.specs.declared.tariff.Tariff.{Tariff}
use Rattle.cc_rating.specs.Tariffs.{fault_of}
use Rattle.book_rows.specs.Form.{Adds}
use Rattle.book_rows.specs.TermsParts.{tariffs}
use Rattle.book_rows.proofs.TermsPartsWritten.{tariffs_added}
use Rattle.book_rows.proofs.tariffs.push_tariffs.Goals as goal

pub returns : goal.returns
returns c =
    let values = c.as_slice-values.result.now in
    let whole : Adds tariffs c.as_slice-values.result.now c.args.out.now.items c.push_all_tariffs.new.out.items = tariffs_added values (ap fault_of c.as_slice-values.ensures.value ∙ c.as_slice-values.ensures.sound) c.in_ok-push_u64.ensures c.in_ok-push_all_tariffs.ensures in
    subst (λ (xs : List Tariff). Adds tariffs xs c.args.out.now.items c.push_all_tariffs.new.out.items) c.as_slice-values.ensures.value whole
