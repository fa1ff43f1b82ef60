use Rattle.std.proofs.Common.{List, [], Result, sym, ap, ◌∙◌}
use Rattle.std.specs.Option.{unwrap_or}
use Rattle.std.specs.Result.{result_ok}
use Rattle.dia_avp.specs.declared.avp.RawAvp.{RawAvp}
use Rattle.dia_avp.specs.declared.fault.AvpFault.{AvpFault}
use Rattle.cc_view.proofs.Splits.{split-readable, split-unreadable}
use Rattle.cc_view.proofs.view.counts.members_of.Goals as goal

members_by : Result (List RawAvp) AvpFault → List RawAvp
members_by split = unwrap_or (result_ok split) []

pub returns-in-Some : goal.returns-in-Some
unfolding members_by
returns-in-Some g c = sym (ap members_by (split-readable c.args.group.now.value c.inside.result c.in-Some.members (c.inside.ensures.group c.requires) cc))

pub returns-in-None : goal.returns-in-None
unfolding members_by
returns-in-None g c =
    let fault = split-unreadable c.args.group.now.value c.inside.result (c.inside.ensures.group c.requires) cc in
    c.new.ensures.items ∙ sym (ap members_by fault.1)
