use Rattle.std.proofs.Common.{◌≡◌, ◌<◌, [], List, Result, ap, arith, get_or, is_some, length, refl, rules, subst, sym, true, ◌∙◌}
use Rattle.std.specs.Prelude.{slice_set}
use Rattle.std.specs.Vec.Iter.{into_iter_items, into_iter_len}
use Rattle.farm_net.specs.declared.loss.Loss.{Loss}
use Rattle.farm_connections.specs.declared.link.Link.{Link}
use Rattle.farm_connections.specs.Calls.{EndsIfLost, brings_none, brings_on, hears_none}
use Rattle.farm_connections.specs.Sending.{AreInOrder, HasNone}
use Rattle.farm_connections.specs.Turns.{Mark}
use Rattle.farm_connections.proofs.Calls.{brings_here, one_heard, where_over}
use Rattle.farm_connections.proofs.Placing.{keeping, same_marks, same_read}
use Rattle.farm_connections.proofs.Telling.{no_way, way_still, way_then}
use Rattle.farm_connections.proofs.desk.Desk.receive_on.Goals as goal

pub returns-in_default-clause-tells : goal.returns-in_default-clause-tells
returns-in_default-clause-tells g c = no_way _ _ refl

pub returns-in_default-clause-brings : goal.returns-in_default-clause-brings
returns-in_default-clause-brings g c =
    let links = c.args.self.now.links.items in
    let seen : c.deref.result.now ≡ links = search rules in
    brings_none (subst (λ ls. AreInOrder ls → HasNone ls c.args.conn) seen c.in_default.ensures.none) refl

pub returns-then-is_some-clause-tells : goal.returns-then-is_some-clause-tells
returns-then-is_some-clause-tells g c = no_way _ _ refl

pub returns-then-is_some-clause-brings : goal.returns-then-is_some-clause-brings
returns-then-is_some-clause-brings g c =
    let links = c.args.self.now.links.items in let place = c.in-Some.place in
    let within : place < length links = search rules in
    let seen : c.deref.result.now ≡ links = search rules in
    brings_on place within
    (λ link read.
    let same = same_read links place c.index.result.now link within c.index.ensures read in (
      c.in-Some.ensures.number link (subst (λ ls. link ≡ get_or ls place link) (sym seen) read),
      where_over _ _ link.end (subst (λ (l : Link _ _). is_some l.end ≡ true) same (sym c.is_some.ensures ∙ c.if-is_some.true))
          (record { account_is = refl; links_are = refl }),
    ))

pub loop-message-init : goal.loop-message-init
loop-message-init g c =
    let links = c.args.self.now.links.items in let place = c.in-Some.place in let here = c.index_mut.result.now in
    let within : place < length links = search rules in
    let next : Link _ _ = record here { conn = c.receive-received.new.self } in
    let marks = same_marks links place here next within c.index_mut.ensures.value refl in
    let places : length (slice_set links place next) ≡ length links = search rules in
    let count : length (into_iter_items c.into_iter-message-iterator.result) ≡ into_iter_len c.into_iter-message-iterator.result = search rules in
    record {
      can = tt;
      finite = tt;
      tells = no_way _ _ (ap (λ (marks : List Mark). keeping c.args.self.now.node marks c.args.self.now.made) marks);
      places = places;
      count = count;
      heard = record { done = []; all_is = refl; hears = hears_none };
    }

pub loop-message-preserved : goal.loop-message-preserved
loop-message-preserved g c =
    let places : length c.hear.new.self.links.items ≡ length c.args.self.now.links.items = search rules in
    let counted = sym (ap length c.in-Some-message.ensures.steps.0) ∙ c.loop-message.invariant.count ∙ sym c.in-Some-message.ensures.steps.1 in
    record {
      can = tt;
      finite = tt;
      tells = way_then c.loop-message.invariant.tells c.hear.ensures.tells;
      places = places;
      count = omega (arith, counted);
      heard = one_heard c.args.locals.now c.args.moment c.in-Some.place _ c.loop-message.self c.hear.new.self _ _ _ _ c.loop-message.invariant.heard c.in-Some-message.ensures.steps.0 c.hear.ensures.hears;
    }

pub returns-in-Err-clause-tells : goal.returns-in-Err-clause-tells
returns-in-Err-clause-tells g c = way_still _ _ _ c.loop-message.invariant.tells c.end_here.ensures.kept

pub returns-in-Err-clause-brings : goal.returns-in-Err-clause-brings
returns-in-Err-clause-brings g c =
    let links = c.args.self.now.links.items in let place = c.in-Some.place in let here = c.index_mut.result.now in
    let within : place < length links = search rules in
    let seen : c.deref.result.now ≡ links = search rules in
    let received = c.receive-received in
    let none : length (into_iter_items c.loop-message.message-iterator) ≡ 0 = c.loop-message.invariant.count ∙ c.in-None.ensures.steps.0 in
    brings_on place within
    (λ link read. (
      c.in-Some.ensures.number link (subst (λ ls. link ≡ get_or ls place link) (sym seen) read),
      brings_here c.args.locals.now c.args.most c.args.moment place c.index.result.now here link (record here { conn = received.new.self })
          c.args.self.now _ c.loop-message.self c.end_here.new.self _ _ received.result.messages.items received.result.outcome
          c.loop-message.invariant.heard none c.into_iter-message-iterator.ensures.into_iter_gives.0
          (same_read links place c.index.result.now link within c.index.ensures read)
          (same_read links place here link within c.index_mut.ensures.value read)
          (sym c.is_some.ensures ∙ c.if-is_some.false) received.ensures.few
          (record {
            is_open = received.ensures.receives;
            is_over = λ over. (received.ensures.closed over).1;
            unsent = received.ensures.others.1;
            only = refl;
          }) refl refl
          (subst (λ (outcome : Result (Unit {0}) Loss). EndsIfLost outcome c.args.moment place c.loop-message.self c.end_here.new.self) (sym c.in-Err.is) c.end_here.ensures.reason),
    ))

pub returns-in_default-outcome-clause-tells : goal.returns-in_default-outcome-clause-tells
returns-in_default-outcome-clause-tells g c = c.loop-message.invariant.tells

pub returns-in_default-outcome-clause-brings : goal.returns-in_default-outcome-clause-brings
returns-in_default-outcome-clause-brings g c =
    let links = c.args.self.now.links.items in let place = c.in-Some.place in let here = c.index_mut.result.now in
    let within : place < length links = search rules in
    let seen : c.deref.result.now ≡ links = search rules in
    let received = c.receive-received in
    let none : length (into_iter_items c.loop-message.message-iterator) ≡ 0 = c.loop-message.invariant.count ∙ c.in-None.ensures.steps.0 in
    brings_on place within
    (λ link read. (
      c.in-Some.ensures.number link (subst (λ ls. link ≡ get_or ls place link) (sym seen) read),
      brings_here c.args.locals.now c.args.most c.args.moment place c.index.result.now here link (record here { conn = received.new.self })
          c.args.self.now _ c.loop-message.self c.loop-message.self _ _ received.result.messages.items received.result.outcome
          c.loop-message.invariant.heard none c.into_iter-message-iterator.ensures.into_iter_gives.0
          (same_read links place c.index.result.now link within c.index.ensures read)
          (same_read links place here link within c.index_mut.ensures.value read)
          (sym c.is_some.ensures ∙ c.if-is_some.false) received.ensures.few
          (record {
            is_open = received.ensures.receives;
            is_over = λ over. (received.ensures.closed over).1;
            unsent = received.ensures.others.1;
            only = refl;
          }) refl refl
          (subst (λ (outcome : Result (Unit {0}) Loss). EndsIfLost outcome c.args.moment place c.loop-message.self c.loop-message.self) (sym c.in_default-outcome.is) refl),
    ))
