use Rattle.std.proofs.Common.{◌≡◌, List, Option, ap, false, get_or, is_some, length, not, refl, rules, subst, sym, true, ◌∙◌}
use Rattle.std.specs.Prelude.{slice_set}
use Rattle.dia_base.specs.declared.number.NodeNo.{NodeNo}
use Rattle.farm_connections.specs.declared.desk.Desk.{Desk}
use Rattle.farm_connections.specs.declared.link.Link.{Link}
use Rattle.farm_connections.specs.Desks.{mark_of}
use Rattle.farm_connections.specs.Doing.{open_peer}
use Rattle.farm_connections.proofs.Calls.{where_open, where_over}
use Rattle.farm_connections.proofs.Coming.{HasCome, HasReacted, IsCounted, answer_counted, has_come, message_says, message_tells, request_counted}
use Rattle.farm_connections.proofs.Doing.{open_up}
use Rattle.farm_connections.proofs.Placing.{same_read}
use Rattle.farm_connections.proofs.Telling.{no_way}
use Rattle.farm_connections.proofs.Untold.{none_come, none_said}
use Rattle.farm_connections.proofs.desk.Desk.tell_message.Goals as goal
use Rattle.farm_connections.proofs.desk.Desk.tell_message.Goals.{else-asks, else-is_on, else-is_on-2, then-asks, then-is_on, then-is_on-2}

pub returns-then-is_none-clause-tells : goal.returns-then-is_none-clause-tells
returns-then-is_none-clause-tells g c = no_way _ _ refl

pub returns-then-is_none-clause-does : goal.returns-then-is_none-clause-does
returns-then-is_none-clause-does g c = λ link read.
    let seen = c.index-link.result.now in
    let none : is_some (open_peer seen) ≡ false = sym (ap (λ (o : Option NodeNo). is_some o) c.open_peer.ensures) ∙ c.is_none.ensures ∙ ap not c.if-is_none.true in
    let same = same_read c.args.self.now.links.items c.args.place seen link c.requires c.index-link.ensures read in
    where_open _ _ (open_peer link) (subst (λ (l : Link _ _). is_some (open_peer l) ≡ false) same none) refl

pub returns : goal.returns
returns g c =
    let old = c.args.self.now in let first = c.if-asks.self in let mid = c.if-is_on.self in let at = c.if-is_on-2.self in let new = c.send_all.new.self in
    let place = c.args.place in let m = c.args.message in let seen = c.index-link.result.now in let here = c.index_mut.result.now in
    let told = c.end_unless_told.new.link in
    let node = c.on_message-reaction.new.self in let sent = c.on_message-reaction.result.out.items in let outcome = c.on_message-reaction.result.outcome in
    let counted : IsCounted seen.id m old first =
    elim c.if-asks.branch [
      | then-asks w ↦
          let came = w.request_came.ensures in
          subst (λ (desk : Desk _ _ _). IsCounted seen.id m old desk) (sym w.self-is) (record {
            counts = request_counted seen.id m old.tally w.request_came.new.self w.if-asks.true
                (record { counted = came.counted; by_peer = came.by_peer; conns = came.conns; timed = came.timed });
            only = refl;
          })
      | else-asks w ↦ subst (λ (desk : Desk _ _ _). IsCounted seen.id m old desk) (sym w.self-is) (record { counts = answer_counted seen.id m old.tally w.if-asks.false; only = refl })
    ] in
    let come : HasCome seen.id m old mid =
    elim c.if-is_on.branch [
      | then-is_on w ↦
          subst (λ (desk : Desk _ _ _). HasCome seen.id m old desk) (sym w.self-is)
          (has_come seen.id m old first w.came.new.self counted (record { told = w.came.ensures.told; begins = w.came.ensures.begins }))
      | else-is_on w ↦
          subst (λ (desk : Desk _ _ _). HasCome seen.id m old desk) (sym w.self-is)
          (has_come seen.id m old first first.recorder counted (none_come seen.id m first.recorder (sym c.is_on.ensures ∙ w.if-is_on.false)))
    ] in
    let links = slice_set mid.links.items place told in
    let reacted : HasReacted node links mid.made mid.tally outcome sent mid.recorder at =
    elim c.if-is_on-2.branch [
      | then-is_on-2 w ↦
          subst (λ (desk : Desk _ _ _). HasReacted node links mid.made mid.tally outcome sent mid.recorder desk) (sym w.self-is)
          (record { node_is = refl; links_are = refl; made_is = refl; tally_is = refl; records = w.record_reaction.ensures })
      | else-is_on-2 w ↦
          let off = none_said outcome sent mid.recorder (sym c.is_on-2.ensures ∙ w.if-is_on-2.false) in
          subst (λ (desk : Desk _ _ _). HasReacted node links mid.made mid.tally outcome sent mid.recorder desk) (sym w.self-is)
          (record { node_is = refl; links_are = refl; made_is = refl; tally_is = refl; records = off })
    ] in
    let same_links : mid.links.items ≡ old.links.items = ap (λ (desk : Desk _ _ _). desk.links.items) come.only in
    let read : here ≡ get_or old.links.items place here = subst (λ (ls : List (Link _ _)). here ≡ get_or ls place here) same_links c.index_mut.ensures.value in
    let places : length links ≡ length mid.links.items = search rules in
    let within = c.requires in let seen_there = c.index-link.ensures in
    let is_open : is_some (open_peer seen) ≡ true = sym (ap (λ (o : Option NodeNo). is_some o) c.open_peer.ensures) ∙ c.is_none.ensures ∙ ap not c.if-is_none.false in
    let up = open_up seen.standing seen.end is_open in
    record {
      tells = message_tells old mid at new place seen told up.0 m node sent outcome within seen_there up.1
          (c.end_unless_told.ensures.mark ∙ ap (λ (l : Link _ _). mark_of l) (same_read old.links.items place here seen within read seen_there)) come
          c.on_message-reaction.ensures reacted c.send_all.ensures.kept;
      does = λ link at_place.
          let same = same_read old.links.items place seen link within seen_there at_place in
          where_over _ _ (open_peer link) (subst (λ (l : Link _ _). is_some (open_peer l) ≡ true) same is_open)
          (message_says old mid at new place seen here link told m node sent outcome same (same_read old.links.items place here link within read at_place) come
          c.on_message-reaction.ensures c.end_unless_told.ensures.only c.end_unless_told.ensures.refused reacted c.send_all.ensures.kept c.send_all.ensures.sent
          c.send_all.ensures.counts c.send_all.ensures.records);
      places = c.send_all.ensures.places ∙ ap length reacted.links_are ∙ places ∙ ap length same_links;
    }
