use Rattle.std.proofs.Common.{◌≡◌, List, [], Option, None, Err, sym, ap, subst, ◌∙◌}
use Rattle.std.proofs.lemmas.Result.{err_from_is_err_and}
use Rattle.std.specs.Option.{option_or}
use Rattle.dia_avp.specs.declared.avp.RawAvp.{RawAvp}
use Rattle.dia_base.specs.Codes.{rating_group, service_identifier}
use Rattle.dia_grammar.specs.Profile.{profile_of}
use Rattle.cc_view.specs.declared.refusal.Refusal.{Refusal}
use Rattle.cc_view.specs.Finding.{Passes}
use Rattle.cc_view.specs.Refusal.{avps_of}
use Rattle.cc_view.specs.RequestView.Checking.{inner_refusal, members_refusal, service_codes, service_members_refusal, service_refusal, tested_in}
use Rattle.cc_view.specs.RequestView.Counts.{u32_in}
use Rattle.cc_view.specs.RequestView.Reading.{units_in}
use Rattle.cc_view.proofs.Checks.{Passes-first, Passes-next, tested_in-listed, tested_in-refused}
use Rattle.cc_view.proofs.Reading.{members-listed, service-read}
use Rattle.cc_view.proofs.view.groups.service_of.Goals as goal

pub returns-in_err-members : goal.returns-in_err-members
unfolding service_refusal
returns-in_err-members g c =
    let p = err_from_is_err_and c.from_residual.result c.from_residual.ensures.1 in
    rw (p.1, p.2) (tested_in-refused (service_members_refusal (profile_of c.args.profile)) (avps_of c.args.group.now.value) c.in_err-members.field-0.0 c.in_err-members.ensures)

pub returns-in_err-check_members : goal.returns-in_err-check_members
unfolding service_refusal
returns-in_err-check_members g c =
    let items = c.in_ok-members.members.items in
    let test = members_refusal (profile_of c.args.profile) service_codes [] in
    let e = c.in_err-check_members.field-0.0 in
    let p = err_from_is_err_and c.from_residual-in_err-check_members.result c.from_residual-in_err-check_members.ensures.1 in
    let given : Passes (test items) (Err e) = subst (λ (x : List RawAvp). Passes (test x) (Err e)) c.deref.ensures.value c.in_err-check_members.ensures in
    rw (p.1, p.2) (tested_in-listed (service_members_refusal (profile_of c.args.profile)) (avps_of c.args.group.now.value) items e c.in_ok-members.ensures (Passes-first (test items) (inner_refusal (profile_of c.args.profile) items) e given))

pub returns-in_err-units : goal.returns-in_err-units
unfolding service_refusal
returns-in_err-units g c =
    let items = c.in_ok-members.members.items in
    let test = members_refusal (profile_of c.args.profile) service_codes [] in
    let inner = inner_refusal (profile_of c.args.profile) in
    let e = c.in_err-units.field-0.0 in
    let p = err_from_is_err_and c.from_residual-in_err-units.result c.from_residual-in_err-units.ensures.1 in
    let passed : test items ≡ None = ap test (sym c.deref.ensures.value) ∙ c.in_ok-check_members.ensures in
    let given : Passes (inner items) (Err e) = subst (λ (x : List RawAvp). Passes (inner x) (Err e)) c.deref-2.ensures.value c.in_err-units.ensures in
    rw (p.1, p.2) (tested_in-listed (service_members_refusal (profile_of c.args.profile)) (avps_of c.args.group.now.value) items e c.in_ok-members.ensures (Passes-next (test items) (inner items) (Err e) passed given))

pub returns : goal.returns
unfolding service_refusal
returns g c =
    let group = c.args.group.now in
    let items = c.in_ok-members.members.items in
    let test = members_refusal (profile_of c.args.profile) service_codes [] in
    let inner = inner_refusal (profile_of c.args.profile) in
    let passed : test items ≡ None = ap test (sym c.deref.ensures.value) ∙ c.in_ok-check_members.ensures in
    let later : inner items ≡ None = ap inner (sym c.deref-2.ensures.value) ∙ c.in_ok-units.ensures.0 in
    let both : option_or (test items) (inner items) ≡ None = ap (λ (o : Option Refusal). option_or o (inner items)) passed ∙ later in
    let name = c.u32_in.ensures ∙ ap (u32_in rating_group) c.deref-3.ensures.value in
    let ident = c.u32_in-2.ensures ∙ ap (u32_in service_identifier) c.deref-4.ensures.value in
    let units = c.in_ok-units.ensures.1 ∙ ap units_in c.deref-2.ensures.value in (
      ap (tested_in (service_members_refusal (profile_of c.args.profile))) c.in_ok-members.ensures ∙ both,
      service-read group items c.u32_in.result c.u32_in-2.result c.in_ok-units.units c.used.result (members-listed group items c.in_ok-members.ensures) name ident units c.used.ensures,
    )
