use Rattle.std.proofs.Common.{◌≡◌, ◌<◌, List, length, slice_index_or, ap, refl, rules, sym, ◌∙◌}
use Rattle.std.specs.Prelude.{Some}
use Rattle.std.proofs.lemmas.List.{get_or_default}
use Rattle.farm_connections.specs.declared.link.Link.{Link}
use Rattle.farm_connections.proofs.Telling.{no_way}
use Rattle.farm_connections.proofs.serving.Serving.take_ended.Goals as goal

pub returns-in_err-place-clause-tells : goal.returns-in_err-place-clause-tells
returns-in_err-place-clause-tells g c = no_way _ _ refl

pub returns-in_err-why-clause-tells : goal.returns-in_err-why-clause-tells
returns-in_err-why-clause-tells g c = no_way _ _ refl

pub returns-clause-tells : goal.returns-clause-tells
returns-clause-tells g c = c.take_out-link.ensures.tells

pub returns-clause-of_link : goal.returns-clause-of_link
returns-clause-of_link g c =
    let links : List (Link g.row.R.Denot g.row.W.Denot) = c.args.self.now.desk.links.items in
    let place = c.in_ok-place.place in
    let there : place < length links = search rules in
    let seen : c.index.result.now ≡ slice_index_or links place c.index.result.now = search rules in
    let out : c.take_out-link.result ≡ slice_index_or links place c.take_out-link.result = search rules in
    let same : c.index.result.now ≡ c.take_out-link.result = seen ∙ get_or_default links place c.index.result.now c.take_out-link.result there ∙ sym out in
    let ended : c.index.result.now.end ≡ Some (c.in_ok-why.why, c.in_ok-why.field-0-1) = search rules in
    record {
      place = place;
      link = c.take_out-link.result;
      there = there;
      at = out;
      since = c.in_ok-why.field-0-1;
      has_ended = ap (λ (link : Link _ _). link.end) (sym same) ∙ ended;
      is = search rules;
    }

pub returns-clause-counts : goal.returns-clause-counts
returns-clause-counts g c =
    let links : List (Link g.row.R.Denot g.row.W.Denot) = c.args.self.now.desk.links.items in
    let place = c.in_ok-place.place in
    let there : place < length links = search rules in
    let out : c.take_out-link.result ≡ slice_index_or links place c.take_out-link.result = search rules in
    record { place = place; link = c.take_out-link.result; there = there; at = out; is_of = refl; counts = search rules }
