use Rattle.std.proofs.Common.{◌≡◌, [], ◌∷◌, true, sym, ◌∙◌, lit≤}
use Rattle.dia_base.specs.Codes.{failed_avp}
use Rattle.cc_view.specs.Answer.Writing.{group_avp}
use Rattle.cc_view.specs.Refusal.FailedAvp.{failed_part, is_copied}
use Rattle.cc_view.proofs.Drafts.{added_as}
use Rattle.cc_view.proofs.Groups.{closable, members_added}
use Rattle.cc_view.proofs.Units.{copied_fits, failed_by}
use Rattle.cc_view.proofs.answer.failed_avp.push_failed.Goals as goal

pub close_group-requires : goal.close_group-requires
close_group-requires c =
    let avp = c.in-Some.avp in
    let copied : is_copied avp ≡ true = sym c.is_copied.ensures ∙ c.if-not-is_copied.false in
    let filled = members_added _ _ _ failed_avp (avp ∷ []) c.in_ok-start.ensures.empty c.in_ok-push_copy.ensures in
    let fits = closable _ _ _ failed_avp 8195 (avp ∷ []) c.in_ok-start.ensures.place filled (copied_fits avp copied) (lit≤ tt) in
    record { header = fits.0; short = fits.1 }

pub returns : goal.returns
returns c =
    let avp = c.in-Some.avp in
    let copied : is_copied avp ≡ true = sym c.is_copied.ensures ∙ c.if-not-is_copied.false in
    let filled = members_added _ _ _ failed_avp (avp ∷ []) c.in_ok-start.ensures.empty c.in_ok-push_copy.ensures in
    added_as _ _ (group_avp failed_avp (avp ∷ []) ∷ []) (failed_part c.args.failed.now) (failed_by c.args.failed.now avp (cc) copied)
    (c.close_group.ensures _ failed_avp (avp ∷ []) c.in_ok-start.ensures.place filled)
