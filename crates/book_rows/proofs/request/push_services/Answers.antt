use Rattle.std.proofs.Common.{List, subst}
use Rattle.cc_view.specs.declared.request.Service.{Service}
use Rattle.book_rows.specs.Form.{Adds}
use Rattle.book_rows.specs.Parts.{services}
use Rattle.book_rows.proofs.RequestWritten.{services_added}
use Rattle.book_rows.proofs.WithinLimits.{limits_pass}
use Rattle.book_rows.proofs.request.push_services.Goals as goal

pub returns : goal.returns
returns c =
    let values = c.as_slice-values.result.now in
    let whole : Adds services c.as_slice-values.result.now c.args.out.now.items c.push_all_services.new.out.items = services_added values (rw c.as_slice-values.ensures.value (limits_pass c.args.value.now c.as_slice-values.ensures.limits)) c.in_ok-push_u64.ensures c.in_ok-push_all_services.ensures in
    subst (λ (xs : List Service). Adds services xs c.args.out.now.items c.push_all_services.new.out.items) c.as_slice-values.ensures.value whole
