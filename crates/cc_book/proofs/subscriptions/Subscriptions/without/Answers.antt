use Rattle.std.proofs.Common.{◌≡◌, ap, not, rules, List, ◌++◌, ◌∙◌}
use Rattle.std.specs.List.{filter}
use Rattle.std.proofs.lemmas.Fn.{filter_same}
use Rattle.cc_view.specs.declared.request.Subscription.{Subscription}
use Rattle.cc_book.specs.TermsChange.{is_among}
use Rattle.cc_book.proofs.subscriptions.Subscriptions.without.Goals as goal

pub returns : goal.returns
returns c =
    let given = c.args.some.now in
    let kept = filter_same _ (λ (id : Subscription). not (is_among given id)) _ (λ x b f k. search rules) _ _ c.retain.ensures.filtered in
    let copied : c.in_ok-ids.ids.items ≡ c.args.self.now = search rules in
    let others : c.in_ok-to_vec.field-0.items ≡ c.args.others.now = search rules in
    let all : c.append.new.self.items ≡ c.retain.new.self.items ++ c.in_ok-to_vec.field-0.items = search rules in
    all
    ∙ (λ i. kept i ++ others i)
    ∙ ap (λ (ids : List Subscription). filter (λ (id : Subscription). not (is_among given id)) ids ++ c.args.others.now) copied
