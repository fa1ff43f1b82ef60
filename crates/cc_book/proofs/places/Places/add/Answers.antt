use Rattle.std.proofs.Common.{◌≡◌, subst, ap, ◌∙◌, List, ℕ, cond, Some}
use Rattle.std.specs.Prelude.{OnOk, unwrap_or}
use Rattle.indexmap.specs.IndexMap.{get, Updates}
use Rattle.cc_book.specs.Duplicate.{Key, same_session}
use Rattle.cc_book.specs.History.{IsNew}
use Rattle.cc_book.specs.Places.{same_numbered}
use Rattle.cc_book.proofs.Placing.{IsIndexed-push}
use Rattle.cc_book.proofs.places.Places.add.Goals as goal

pub returns-clause-indexed : goal.returns-clause-indexed
returns-clause-indexed c = λ history moment request indexed at key is_new.
    let id : c.args.session ≡ request.session = ap (λ (k : Key). k.session) key in
    let number : c.args.number ≡ request.number = ap (λ (k : Key). k.number) key in
    let first = c.first_or_add-first.result in
    let firsts = c.first_or_add-first.new.self.firsts in
    let before =
    subst (λ r. OnOk r (Updates same_numbered c.first_or_add-first.new.self.numbered c.insert.new.self (first, c.args.number) (Some c.args.place)))
    c.unwrap.ensures c.insert.ensures.updates in
    IsIndexed-push history c.args.self.now (record { firsts = firsts; numbered = c.insert.new.self }) c.args.place first moment request indexed at
    (subst (IsNew history) key is_new)
    (c.first_or_add-first.ensures.first ∙ ap (λ (s : List ℕ). unwrap_or (get same_session c.args.self.now.firsts s) c.args.place) id)
    (λ other. c.first_or_add-first.ensures.firsts other
    ∙ ap (λ (s : List ℕ). cond (same_session s other) (Some first) (get same_session c.args.self.now.firsts other)) id)
    (λ q. before.0 q ∙ ap (λ (n : ℕ). cond (same_numbered (first, n) q) (Some c.args.place) (get same_numbered c.first_or_add-first.new.self.numbered q)) number
    ∙ ap (λ m. cond (same_numbered (first, request.number) q) (Some c.args.place) (get same_numbered m q)) c.first_or_add-first.ensures.numbered)
