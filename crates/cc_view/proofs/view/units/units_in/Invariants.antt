use Rattle.std.proofs.Common.{◌≡◌, ◌*◌, ◌^◌, ◌≤◌, take, None}
use Rattle.dia_grammar.specs.Profile.{profile_of}
use Rattle.cc_view.specs.RequestView.Checking.{first_refusal, inner_group_refusal}
use Rattle.cc_view.specs.RequestView.Reading.{units_in}
use Rattle.cc_view.proofs.view.units.units_in.Given as goal

abbrev pub invariant-loop-avp : goal.invariant-loop-avp
invariant-loop-avp g l = record {
  passed : first_refusal (inner_group_refusal (profile_of l.profile)) (take l.avp-index l.avps) ≡ None;
  units : l.units ≡ units_in (take l.avp-index l.avps);
  time : l.units.time ≤ l.avp-index * 2 ^ 64;
  octets : l.units.octets ≤ l.avp-index * 2 ^ 64;
  specific : l.units.specific ≤ l.avp-index * 2 ^ 64;
}
