use Rattle.std.proofs.Common.{◌≡◌, List, [], None, Err, sym, ap, subst, ◌∙◌}
use Rattle.std.proofs.lemmas.Result.{err_from_is_err_and}
use Rattle.dia_avp.specs.declared.avp.RawAvp.{RawAvp}
use Rattle.dia_grammar.specs.Profile.{profile_of}
use Rattle.cc_view.specs.Finding.{Passes}
use Rattle.cc_view.specs.Refusal.{avps_of}
use Rattle.cc_view.specs.RequestView.Checking.{count_codes, members_refusal, tested_in, units_refusal}
use Rattle.cc_view.specs.RequestView.Reading.{counts_in}
use Rattle.cc_view.proofs.Checks.{tested_in-listed, tested_in-refused}
use Rattle.cc_view.proofs.Reading.{members-listed}
use Rattle.cc_view.proofs.view.units.counts_of.Goals as goal

pub returns-in_err-members : goal.returns-in_err-members
unfolding units_refusal
returns-in_err-members g c =
    let p = err_from_is_err_and c.from_residual.result c.from_residual.ensures.1 in
    rw (p.1, p.2) (tested_in-refused (members_refusal (profile_of c.args.profile) count_codes []) (avps_of c.args.group.now.value) c.in_err-members.field-0.0 c.in_err-members.ensures)

pub returns-in_err-check_members : goal.returns-in_err-check_members
unfolding units_refusal
returns-in_err-check_members g c =
    let items = c.in_ok-members.members.items in
    let test = members_refusal (profile_of c.args.profile) count_codes [] in
    let p = err_from_is_err_and c.from_residual-in_err-check_members.result c.from_residual-in_err-check_members.ensures.1 in
    let given : Passes (test items) (Err c.in_err-check_members.field-0.0) = subst (λ (x : List RawAvp). Passes (test x) (Err c.in_err-check_members.field-0.0)) c.deref.ensures.value c.in_err-check_members.ensures in
    rw (p.1, p.2) (tested_in-listed test (avps_of c.args.group.now.value) items c.in_err-check_members.field-0.0 c.in_ok-members.ensures given)

pub returns : goal.returns
unfolding units_refusal
returns g c =
    let items = c.in_ok-members.members.items in
    let test = members_refusal (profile_of c.args.profile) count_codes [] in
    let passed : test items ≡ None = ap test (sym c.deref.ensures.value) ∙ c.in_ok-check_members.ensures in
    let same = members-listed c.args.group.now items c.in_ok-members.ensures in
    (ap (tested_in test) c.in_ok-members.ensures ∙ passed, c.counts_in.ensures ∙ ap counts_in (c.deref-2.ensures.value ∙ sym same))
