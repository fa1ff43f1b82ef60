use Rattle.std.proofs.Common.{◌≡◌, ◌==◌, ℕ, List, true, false, ap, sym, ◌∙◌, true≢false}
use Rattle.std.specs.List.{list_any}
use Rattle.book_journal.proofs.Touching.{touched_any}
use Rattle.book_journal.proofs.touched.touch_once.Goals as goal

pub returns-then-contains-clause-there : goal.returns-then-contains-clause-there
returns-then-contains-clause-there c =
    sym (touched_any c.args.place c.args.places.now.items)
    ∙ ap (λ (xs : List ℕ). list_any (λ y. y == c.args.place) xs) (sym c.deref.ensures.value)
    ∙ sym c.contains.ensures.value ∙ c.if-contains.true

pub returns-clause-once : goal.returns-clause-once
returns-clause-once c = λ there. absurd (true≢false (sym there
    ∙ sym (touched_any c.args.place c.args.places.now.items)
    ∙ ap (λ (xs : List ℕ). list_any (λ y. y == c.args.place) xs) (sym c.deref.ensures.value)
    ∙ sym c.contains.ensures.value ∙ c.if-contains.false))
