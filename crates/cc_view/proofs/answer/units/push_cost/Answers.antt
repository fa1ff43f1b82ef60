use Rattle.std.proofs.Common.{lit≤}
use Rattle.dia_base.specs.Codes.{cost_information}
use Rattle.cc_view.proofs.FittingUnits.{cost_members, takes-cost_members}
use Rattle.cc_view.proofs.Groups.{closable}
use Rattle.cc_view.proofs.Units.{cost_filled}
use Rattle.cc_view.proofs.answer.units.push_cost.Goals as goal

pub close_group-requires : goal.close_group-requires
close_group-requires c =
    let cost = c.args.cost.now in
    let filled = cost_filled _ _ _ _ cost c.in_ok-start.ensures.empty c.in_ok-push_value.ensures c.in_ok-push_u32.ensures in
    let fits = closable _ _ _ cost_information 48 (cost_members cost) c.in_ok-start.ensures.place filled (takes-cost_members cost).most (lit≤ tt) in
    record { header = fits.0; short = fits.1 }

pub returns : goal.returns
returns c =
    let cost = c.args.cost.now in
    let filled = cost_filled _ _ _ _ cost c.in_ok-start.ensures.empty c.in_ok-push_value.ensures c.in_ok-push_u32.ensures in
    c.close_group.ensures _ cost_information (cost_members cost) c.in_ok-start.ensures.place filled
