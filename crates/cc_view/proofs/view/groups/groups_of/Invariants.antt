use Rattle.std.proofs.Common.{◌≡◌, ◌*◌, ◌^◌, ◌≤◌, take, None}
use Rattle.dia_grammar.specs.Profile.{profile_of}
use Rattle.cc_view.specs.RequestView.Checking.{first_refusal, group_refusal}
use Rattle.cc_view.specs.RequestView.Reading.{AreGroupsOf}
use Rattle.cc_view.proofs.view.groups.groups_of.Given as goal

abbrev pub invariant-loop-avp : goal.invariant-loop-avp
invariant-loop-avp g l = record {
  passed : first_refusal (group_refusal (profile_of l.profile)) (take l.avp-index l.avps) ≡ None;
  groups : AreGroupsOf (take l.avp-index l.avps) l.groups;
  time : l.groups.units.time ≤ l.avp-index * 2 ^ 64;
  octets : l.groups.units.octets ≤ l.avp-index * 2 ^ 64;
  specific : l.groups.units.specific ≤ l.avp-index * 2 ^ 64;
}
