use Rattle.std.proofs.Common.{[], ◌∷◌, lit≤}
use Rattle.dia_base.specs.Codes.{granted_service_unit}
use Rattle.cc_view.specs.Answer.{granted_part, unit_avp}
use Rattle.cc_view.specs.Answer.Writing.{group_avp}
use Rattle.cc_view.proofs.Drafts.{added_as}
use Rattle.cc_view.proofs.Groups.{closable, members_added}
use Rattle.cc_view.proofs.Units.{granted_by, unit_fits}
use Rattle.cc_view.proofs.answer.units.push_granted.Goals as goal

pub close_group-requires : goal.close_group-requires
close_group-requires c =
    let kind = c.in-Some-Some.kind in
    let units = c.in-Some-Some.units in
    let members = unit_avp kind units ∷ [] in
    let filled = members_added _ _ _ granted_service_unit members c.in_ok-start.ensures.empty c.in_ok-push_unit.ensures in
    let fits = closable _ _ _ granted_service_unit 16 members c.in_ok-start.ensures.place filled (unit_fits kind units) (lit≤ tt) in
    record { header = fits.0; short = fits.1 }

pub returns : goal.returns
returns c =
    let kind = c.in-Some-Some.kind in
    let units = c.in-Some-Some.units in
    let members = unit_avp kind units ∷ [] in
    let filled = members_added _ _ _ granted_service_unit members c.in_ok-start.ensures.empty c.in_ok-push_unit.ensures in
    added_as _ _ (group_avp granted_service_unit members ∷ []) (granted_part c.args.service.now.kind c.args.service.now.granted)
    (granted_by c.args.service.now.kind c.args.service.now.granted kind units (cc) (cc))
    (c.close_group.ensures _ granted_service_unit members c.in_ok-start.ensures.place filled)
