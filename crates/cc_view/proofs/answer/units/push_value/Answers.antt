use Rattle.std.proofs.Common.{rules, w32, w64, lit≤}
use Rattle.std.proofs.lemmas.Int.{to_z-of_z}
use mir.Val.{SFits, of_z, to_z}
use Rattle.dia_base.specs.Codes.{unit_value}
use Rattle.cc_view.proofs.FittingUnits.{takes-value, value_members}
use Rattle.cc_view.proofs.Groups.{closable}
use Rattle.cc_view.proofs.Units.{value_filled}
use Rattle.cc_view.proofs.answer.units.push_value.Goals as goal

pub close_group-requires : goal.close_group-requires
close_group-requires c =
    let cost = c.args.cost.now in
    let digits : SFits w64 cost.digits = search rules in
    let power : SFits w32 cost.exponent = search rules in
    let filled = value_filled _ _ _ _ cost (to_z w64 (of_z w64 cost.digits)) (to_z w32 (of_z w32 cost.exponent)) c.in_ok-start.ensures.empty c.in_ok-push_i64.ensures c.in_ok-push_i32.ensures (to_z-of_z w64 cost.digits digits) (to_z-of_z w32 cost.exponent power) in
    let fits = closable _ _ _ unit_value 28 (value_members cost) c.in_ok-start.ensures.place filled (takes-value cost).most (lit≤ tt) in
    record { header = fits.0; short = fits.1 }

pub returns : goal.returns
returns c =
    let cost = c.args.cost.now in
    let digits : SFits w64 cost.digits = search rules in
    let power : SFits w32 cost.exponent = search rules in
    let filled = value_filled _ _ _ _ cost (to_z w64 (of_z w64 cost.digits)) (to_z w32 (of_z w32 cost.exponent)) c.in_ok-start.ensures.empty c.in_ok-push_i64.ensures c.in_ok-push_i32.ensures (to_z-of_z w64 cost.digits digits) (to_z-of_z w32 cost.exponent power) in
    c.close_group.ensures _ unit_value (value_members cost) c.in_ok-start.ensures.place filled
