use Rattle.std.proofs.Common.{ap, ◌∙◌, ℕ}
use Rattle.std.specs.Option.{option_and_then}
use Rattle.indexmap.specs.IndexMap.{get}
use Rattle.cc_book.specs.Duplicate.{key_of}
use Rattle.cc_book.specs.Places.{same_numbered}
use Rattle.cc_book.proofs.Placing.{found-kept}
use Rattle.cc_book.proofs.places.Places.find.Goals as goal

pub returns-in_err-first : goal.returns-in_err-first
returns-in_err-first c = λ history indexed.
    c.from_residual.ensures
    ∙ ap (option_and_then (λ (first : ℕ). get same_numbered c.args.self.now.numbered (first, c.args.request.now.number))) c.in_err-first.ensures.value
    ∙ found-kept history c.args.self.now (key_of c.args.request.now) indexed

pub returns : goal.returns
returns c = λ history indexed.
    c.copied.ensures ∙ c.get-2.ensures.value
    ∙ ap (option_and_then (λ (first : ℕ). get same_numbered c.args.self.now.numbered (first, c.args.request.now.number))) c.in_ok-first.ensures.value
    ∙ found-kept history c.args.self.now (key_of c.args.request.now) indexed
