use Rattle.std.proofs.Common.{rules, ◌≡◌, true, sym, ◌∙◌}
use Rattle.std.specs.List.{list_any}
use Rattle.farm_base.specs.CheckedSite.{joins_two_of, same_pair}
use Rattle.farm_base.specs.Nodes.{is_client, is_front, is_node}
use Rattle.farm_base.specs.declared.site.Link.{Link}
use Rattle.farm_site.specs.Faults.{is_bad_link}
use Rattle.farm_site.specs.Graph.{drawn}
use Rattle.farm_site.proofs.Refusing.{bad_by_ends, bad_by_pair}
use Rattle.farm_site.proofs.link.link_of.Goals as goal
use Rattle.farm_site.proofs.link.link_of.Goals.{else-may_be-via-then-may_be+else-not-is_there, else-may_be-via-else-may_be}

pub returns-else-may_be-clause-fault : goal.returns-else-may_be-clause-fault
returns-else-may_be-clause-fault c = λ few.
    let link : Link = record { from = c.in_ok-end_of.field-0; to = c.in_ok-end_of-2.field-0 } in
    let site = drawn c.args.before in
    let bad : is_bad_link c.args.before.nodes.now c.args.before.links.now link ≡ true =
    elim c.else-may_be.branch [
      | else-may_be-via-then-may_be+else-not-is_there w ↦
          let there : w.is_there.result ≡ true = search rules in
          bad_by_pair (is_node link.from link.to) (joins_two_of (is_client site) link) (joins_two_of (is_front site) link) (list_any (λ (other : Link). same_pair other link) c.args.before.links.now) (sym w.is_there.ensures ∙ there)
      | else-may_be-via-else-may_be w ↦
          bad_by_ends (is_node link.from link.to) (joins_two_of (is_client site) link) (joins_two_of (is_front site) link) (list_any (λ (other : Link). same_pair other link) c.args.before.links.now) (sym c.may_be.ensures ∙ w.if-may_be.false)
    ] in
    record {
      link = link;
      spelled = record { from = c.in_ok-end_of.ensures.named; to = c.in_ok-end_of-2.ensures.named };
      bad = bad;
    }
