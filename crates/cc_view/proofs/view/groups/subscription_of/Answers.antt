use Rattle.std.proofs.Common.{◌≡◌, ℕ, List, Option, None, Err, sym, ap, subst, ◌∙◌}
use Rattle.std.proofs.lemmas.Result.{err_from_is_err_and}
use Rattle.std.specs.Option.{unwrap_or}
use Rattle.dia_avp.specs.declared.avp.RawAvp.{RawAvp}
use Rattle.dia_base.specs.Codes.{subscription_id_data, subscription_id_type}
use Rattle.dia_grammar.specs.Profile.{profile_of}
use Rattle.cc_view.specs.Finding.{Passes}
use Rattle.cc_view.specs.Refusal.{avps_of}
use Rattle.cc_view.specs.RequestView.Checking.{members_refusal, subscription_codes, subscription_refusal, tested_in}
use Rattle.cc_view.specs.RequestView.Content.{octets_in}
use Rattle.cc_view.specs.RequestView.Counts.{u32_in}
use Rattle.cc_view.proofs.Checks.{tested_in-listed, tested_in-refused}
use Rattle.cc_view.proofs.Reading.{members-listed, subscription-read}
use Rattle.cc_view.proofs.view.groups.subscription_of.Goals as goal

pub returns-in_err-members : goal.returns-in_err-members
unfolding subscription_refusal
returns-in_err-members g c =
    let test = members_refusal (profile_of c.args.profile) subscription_codes subscription_codes in
    let p = err_from_is_err_and c.from_residual.result c.from_residual.ensures.1 in
    rw (p.1, p.2) (tested_in-refused test (avps_of c.args.group.now.value) c.in_err-members.field-0.0 c.in_err-members.ensures)

pub returns-in_err-check_members : goal.returns-in_err-check_members
unfolding subscription_refusal
returns-in_err-check_members g c =
    let items = c.in_ok-members.members.items in
    let test = members_refusal (profile_of c.args.profile) subscription_codes subscription_codes in
    let p = err_from_is_err_and c.from_residual-in_err-check_members.result c.from_residual-in_err-check_members.ensures.1 in
    let given : Passes (test items) (Err c.in_err-check_members.field-0.0) = subst (λ (x : List RawAvp). Passes (test x) (Err c.in_err-check_members.field-0.0)) c.deref.ensures.value c.in_err-check_members.ensures in
    rw (p.1, p.2) (tested_in-listed test (avps_of c.args.group.now.value) items c.in_err-check_members.field-0.0 c.in_ok-members.ensures given)

pub returns : goal.returns
unfolding subscription_refusal
returns g c =
    let items = c.in_ok-members.members.items in
    let test = members_refusal (profile_of c.args.profile) subscription_codes subscription_codes in
    let passed : test items ≡ None = ap test (sym c.deref.ensures.value) ∙ c.in_ok-check_members.ensures in
    let same = members-listed c.args.group.now items c.in_ok-members.ensures in
    let kind = c.unwrap_or.ensures ∙ ap (λ (o : Option ℕ). unwrap_or o 0) (c.u32_in.ensures ∙ ap (u32_in subscription_id_type) c.deref-3.ensures.value) in
    let text = c.in_ok-text.ensures ∙ ap (octets_in subscription_id_data) c.deref-2.ensures.value in
    (ap (tested_in test) c.in_ok-members.ensures ∙ passed, subscription-read c.args.group.now items c.unwrap_or.result c.in_ok-text.text same kind text)
