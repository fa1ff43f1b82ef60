use Rattle.std.proofs.Common.{lit≤}
use Rattle.dia_base.specs.Codes.{multiple_services}
use Rattle.cc_view.proofs.FittingUnits.{service_members}
use Rattle.cc_view.proofs.Groups.{closable}
use Rattle.cc_view.proofs.Units.{service_filled, service_fits}
use Rattle.cc_view.proofs.answer.units.push_service.Goals as goal

pub close_group-requires : goal.close_group-requires
close_group-requires c =
    let service = c.args.service.now in
    let filled = service_filled _ _ _ _ _ _ _ _ service _ c.in_ok-start.ensures.empty c.in_ok-push_granted.ensures c.in_ok-push_optional_u32.ensures c.in_ok-push_optional_u32-2.ensures
    c.in_ok-push_optional_u32-3.ensures c.in_ok-push_u32.ensures c.in_ok-push_final.ensures c.number.ensures in
    let fits = closable _ _ _ multiple_services 92 (service_members service) c.in_ok-start.ensures.place filled (service_fits service) (lit≤ tt) in
    record { header = fits.0; short = fits.1 }

pub returns : goal.returns
returns c =
    let service = c.args.service.now in
    let filled = service_filled _ _ _ _ _ _ _ _ service _ c.in_ok-start.ensures.empty c.in_ok-push_granted.ensures c.in_ok-push_optional_u32.ensures c.in_ok-push_optional_u32-2.ensures
    c.in_ok-push_optional_u32-3.ensures c.in_ok-push_u32.ensures c.in_ok-push_final.ensures c.number.ensures in
    c.close_group.ensures _ multiple_services (service_members service) c.in_ok-start.ensures.place filled
