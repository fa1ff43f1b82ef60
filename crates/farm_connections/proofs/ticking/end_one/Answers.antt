use Rattle.std.proofs.Common.{◌≡◌, ◌<◌, get_or, length, refl, rules, subst, sym}
use Rattle.farm_connections.specs.Doing.{ends_one}
use Rattle.farm_connections.proofs.Placing.{same_marks}
use Rattle.farm_connections.proofs.ticking.end_one.Goals as goal

pub returns-in-Some-clause-marks : goal.returns-in-Some-clause-marks
returns-in-Some-clause-marks g c =
    let within : c.in-Some.place < length c.args.links.now.items = search rules in
    same_marks c.args.links.now.items c.in-Some.place c.index_mut.result.now c.end_at.new.link within c.index_mut.ensures.value c.end_at.ensures.mark

pub returns-in-Some-clause-ends : goal.returns-in-Some-clause-ends
returns-in-Some-clause-ends g c =
    let links = c.args.links.now.items in let place = c.in-Some.place in let link = c.index_mut.result.now in
    let within : place < length links = search rules in
    let seen : c.deref.result.now ≡ links = search rules in
    let read : link ≡ get_or c.deref.result.now place link = subst (λ ls. link ≡ get_or ls place link) (sym seen) c.index_mut.ensures.value in
    ends_one place link c.end_at.new.link within c.index_mut.ensures.value (c.in-Some.ensures.number link read) c.end_at.ensures.ended refl
