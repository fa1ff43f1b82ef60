use Rattle.std.proofs.Common.{◌≡◌, ◌+◌, ◌<◌, ◌≤◌, List, ap, get_or, length, refl, rules, subst, sym, ◌∙◌}
use Rattle.std.specs.Prelude.{slice_set}
use Rattle.farm_connections.specs.declared.desk.Desk.{Desk}
use Rattle.farm_connections.specs.Counting.{counts_none}
use Rattle.farm_connections.specs.Desks.{marks_of}
use Rattle.farm_connections.specs.Sending.{AreInOrder, HasNone, nothing_goes, on_none, on_one}
use Rattle.farm_connections.specs.Turns.{Mark}
use Rattle.farm_connections.proofs.Placing.{keeping, same_marks}
use Rattle.farm_connections.proofs.Sending.{GoneOut, all_counted, all_gone, one_gone, posted_on}
use Rattle.farm_connections.proofs.desk.Desk.send_all.Goals as goal
use Rattle.farm_connections.proofs.desk.Desk.send_all.Goals.{in-Some, in_default}

pub loop-conn-init : goal.loop-conn-init
loop-conn-init g c = record { node = refl; marks = refl; made = refl; failed = refl; places = refl; sent = nothing_goes; counts = counts_none; recorder = refl }

pub loop-conn-preserved : goal.loop-conn-preserved
loop-conn-preserved g c =
    let old = c.args.self.now in let mid = c.loop-conn.self in let links = mid.links.items in
    let out = c.args.out.now.items in let index = c.loop-conn.conn-index in let item = c.loop-conn-item.result in
    let seen : c.as_slice-conn-items.result.now ≡ out = search rules in
    let within : index < length out = subst (λ xs. index < length xs) seen c.loop-conn-test.true in
    let read : item ≡ get_or out index item = subst (λ xs. item ≡ get_or xs index item) seen c.loop-conn-item.is in
    let lent : c.deref.result.now ≡ links = search rules in
    elim c.match-place_of.branch [
      | in-Some w ↦
          let place = w.in-Some.place in let here = w.index_mut-link.result.now in let next = w.send_at.new.link in
          let there : place < length links = search rules in
          let places : length (slice_set links place next) ≡ length links = search rules in
          let numbered = w.in-Some.ensures.number here (subst (λ ls. here ≡ get_or ls place here) (sym lent) w.index_mut-link.ensures.value) in
          let posted = posted_on item.1 here w.open_after-link.result next w.open_after-link.ensures w.send_at.ensures.sent w.send_at.ensures.unanswered in
          subst (λ (now : Desk _ _ _). GoneOut old out (index + 1) now) (sym w.self-is)
          (one_gone old mid _ out index item within read c.loop-conn.invariant refl refl refl refl
          (same_marks links place here next there w.index_mut-link.ensures.value w.send_at.ensures.mark) places c.count_sent.ensures
          (on_one place here next there w.index_mut-link.ensures.value numbered posted refl))
      | in_default w ↦
          subst (λ (now : Desk _ _ _). GoneOut old out (index + 1) now) (sym w.self-is)
          (one_gone old mid _ out index item within read c.loop-conn.invariant refl refl refl refl refl refl c.count_sent.ensures
          (on_none (subst (λ ls. AreInOrder ls → HasNone ls item.0) lent w.in_default.ensures.none) refl))
    ]

pub returns-clause-kept : goal.returns-clause-kept
returns-clause-kept g c =
    let now = c.loop-conn.self in let gone = c.loop-conn.invariant in
    ap (λ node. keeping node (marks_of now.links.items) now.made) gone.node
    ∙ ap (λ (marks : List Mark). keeping c.args.self.now.node marks now.made) gone.marks
    ∙ ap (λ made. keeping c.args.self.now.node (marks_of c.args.self.now.links.items) made) gone.made

pub returns-clause-sent : goal.returns-clause-sent
returns-clause-sent g c =
    let past : length c.args.out.now.items ≤ c.loop-conn.conn-index = search rules in
    all_gone c.args.self.now.links.items c.loop-conn.self.links.items c.args.out.now.items c.loop-conn.conn-index past c.loop-conn.invariant.sent

pub returns-clause-counts : goal.returns-clause-counts
returns-clause-counts g c =
    let past : length c.args.out.now.items ≤ c.loop-conn.conn-index = search rules in
    all_counted c.args.self.now.tally c.loop-conn.self.tally c.args.out.now.items c.loop-conn.conn-index past c.loop-conn.invariant.counts
