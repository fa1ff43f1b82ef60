use Rattle.std.proofs.Common.{[], ◌∷◌, sym, ap, lit≤}
use Rattle.dia_base.specs.Codes.{final_unit_action, final_unit_indication}
use Rattle.cc_view.specs.Answer.{final_part}
use Rattle.cc_view.specs.Answer.Writing.{group_avp, u32_avp}
use Rattle.cc_view.proofs.Drafts.{added_as}
use Rattle.cc_view.proofs.Groups.{closable, members_added}
use Rattle.cc_view.proofs.answer.units.push_final.Goals as goal

pub close_group-requires : goal.close_group-requires
close_group-requires c =
    let members = u32_avp final_unit_action 0 ∷ [] in
    let filled = members_added _ _ _ final_unit_indication members c.in_ok-start.ensures.empty c.in_ok-push_u32.ensures in
    let fits = closable _ _ _ final_unit_indication 12 members c.in_ok-start.ensures.place filled (lit≤ tt) (lit≤ tt) in
    record { header = fits.0; short = fits.1 }

pub returns : goal.returns
returns c =
    let members = u32_avp final_unit_action 0 ∷ [] in
    let filled = members_added _ _ _ final_unit_indication members c.in_ok-start.ensures.empty c.in_ok-push_u32.ensures in
    added_as _ _ (group_avp final_unit_indication members ∷ []) _ (sym (ap final_part c.if-not-last.false)) (c.close_group.ensures _ final_unit_indication members c.in_ok-start.ensures.place filled)
