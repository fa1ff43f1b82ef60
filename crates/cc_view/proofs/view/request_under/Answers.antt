use Rattle.std.proofs.Common.{ℕ, List, Ok, Err, None, refl, sym, ap, subst, ◌∙◌}
use Rattle.std.proofs.lemmas.Result.{err_from_is_err_and}
use Rattle.dia_avp.specs.declared.avp.RawAvp.{RawAvp}
use Rattle.dia_grammar.specs.Profile.{profile_of}
use Rattle.cc_view.specs.Answer.Carried.{carries_too_much}
use Rattle.cc_view.specs.Finding.{Gives, GivesAll, Passes}
use Rattle.cc_view.specs.RequestView.Content.{content_of}
use Rattle.cc_view.specs.Refusal.{avps_of}
use Rattle.cc_view.specs.RequestView.{request_refusal}
use Rattle.cc_view.proofs.Views.{view_of-application, view_of-command, view_of-list, view_of_avps-much, view_of_avps-few, IsView-refused, IsView-unlisted, IsView-tested, IsView-content}
use Rattle.cc_view.proofs.view.request_under.Goals as goal

pub returns-then-message-ne-CREDIT_CONTROL_APPLICATION-clause-view : goal.returns-then-message-ne-CREDIT_CONTROL_APPLICATION-clause-view
returns-then-message-ne-CREDIT_CONTROL_APPLICATION-clause-view g c =
    IsView-refused _ _ _ c.refusal_with.ensures (view_of-application (profile_of c.args.profile) c.args.message.now c.if-message-ne-CREDIT_CONTROL_APPLICATION.true)

pub returns-then-message-ne-CREDIT_CONTROL_COMMAND-clause-view : goal.returns-then-message-ne-CREDIT_CONTROL_COMMAND-clause-view
returns-then-message-ne-CREDIT_CONTROL_COMMAND-clause-view g c =
    IsView-refused _ _ _ c.refusal_with-then-message-ne-CREDIT_CONTROL_COMMAND.ensures
    (view_of-command (profile_of c.args.profile) c.args.message.now c.if-message-ne-CREDIT_CONTROL_APPLICATION.false c.if-message-ne-CREDIT_CONTROL_COMMAND.true)

pub returns-in_err-avps-clause-view : goal.returns-in_err-avps-clause-view
returns-in_err-avps-clause-view g c =
    let p = err_from_is_err_and c.from_residual.result c.from_residual.ensures.1 in
    let given : GivesAll (avps_of c.args.message.now.body) (Err c.in_err-avps.field-0.0) =
    subst (λ (x : List ℕ). GivesAll (avps_of x) (Err c.in_err-avps.field-0.0)) c.as_slice.ensures c.in_err-avps.ensures in
    let list = view_of-list (profile_of c.args.profile) c.args.message.now (avps_of c.args.message.now.body) c.if-message-ne-CREDIT_CONTROL_APPLICATION.false c.if-message-ne-CREDIT_CONTROL_COMMAND.false refl in
    rw (p.1, p.2) (IsView-unlisted (profile_of c.args.profile) _ _ _ list given)

pub returns-then-carries_too_much-clause-view : goal.returns-then-carries_too_much-clause-view
returns-then-carries_too_much-clause-view g c =
    let list = view_of-list (profile_of c.args.profile) c.args.message.now (Ok c.in_ok-avps.avps.items) c.if-message-ne-CREDIT_CONTROL_APPLICATION.false c.if-message-ne-CREDIT_CONTROL_COMMAND.false
    (ap avps_of (sym c.as_slice.ensures) ∙ c.in_ok-avps.ensures) in
    IsView-refused _ _ _ c.refusal_with-then-carries_too_much.ensures
    (list ∙ view_of_avps-much (profile_of c.args.profile) c.in_ok-avps.avps.items (ap carries_too_much (sym c.deref.ensures.value) ∙ sym c.if-carries_too_much.ensures))

pub returns-in_err-groups-clause-view : goal.returns-in_err-groups-clause-view
returns-in_err-groups-clause-view g c =
    let items = c.in_ok-avps.avps.items in
    let p = err_from_is_err_and c.from_residual-in_err-groups.result c.from_residual-in_err-groups.ensures.1 in
    let list = view_of-list (profile_of c.args.profile) c.args.message.now (Ok items) c.if-message-ne-CREDIT_CONTROL_APPLICATION.false c.if-message-ne-CREDIT_CONTROL_COMMAND.false
    (ap avps_of (sym c.as_slice.ensures) ∙ c.in_ok-avps.ensures) in
    let few = ap carries_too_much (sym c.deref.ensures.value) ∙ sym c.if-carries_too_much.ensures in
    let given : Passes (request_refusal (profile_of c.args.profile) items) (Err c.in_err-groups.field-0.0) =
    subst (λ (x : List RawAvp). Passes (request_refusal (profile_of c.args.profile) x) (Err c.in_err-groups.field-0.0)) c.deref-2.ensures.value c.in_err-groups.ensures in
    rw (p.1, p.2) (IsView-tested _ (request_refusal (profile_of c.args.profile) items) (content_of items) _
    (list ∙ view_of_avps-few (profile_of c.args.profile) items (request_refusal (profile_of c.args.profile) items) few refl) given)

pub returns-clause-view : goal.returns-clause-view
returns-clause-view g c =
    let items = c.in_ok-avps.avps.items in
    let list = view_of-list (profile_of c.args.profile) c.args.message.now (Ok items) c.if-message-ne-CREDIT_CONTROL_APPLICATION.false c.if-message-ne-CREDIT_CONTROL_COMMAND.false
    (ap avps_of (sym c.as_slice.ensures) ∙ c.in_ok-avps.ensures) in
    let few = ap carries_too_much (sym c.deref.ensures.value) ∙ sym c.if-carries_too_much.ensures in
    let passed = ap (request_refusal (profile_of c.args.profile)) (sym c.deref-2.ensures.value) ∙ c.in_ok-groups.ensures.0 in
    IsView-content _ (content_of items) c.content_of.result (list ∙ view_of_avps-few (profile_of c.args.profile) items None few passed)
    (subst (λ (x : List RawAvp). Gives (content_of x) c.content_of.result) c.deref-3.ensures.value c.content_of.ensures)
