use Rattle.std.proofs.Common.{◌≡◌, ◌+◌, ℕ, List, [], ◌∷◌, ◌++◌, take, sym, ap, ◌∙◌}
use Rattle.std.proofs.lemmas.List.{take_more}
use Rattle.cc_book.specs.declared.entry.Entry.{Entry}
use Rattle.cc_book.specs.declared.terms.Terms.{Terms}
use Rattle.book_lines.specs.Lines.{line_behind, lines_of}
use Rattle.book_lines.proofs.Taken.{lines_of-push}
use Rattle.book_lines.proofs.entries.entry_lines.Goals as goal

pub loop-entry-preserved : goal.loop-entry-preserved
loop-entry-preserved c =
    let history = c.args.history.now in
    let terms = c.args.empty.terms in
    let at = c.loop-entry.entry-index in
    let book = c.loop-entry.book in
    let item = c.entry-item.result in
    let more : take (at + 1) history ≡ take at history ++ item ∷ [] =
    take_more history at item c.loop-entry-test.true ∙ ap (λ (x : Entry). take at history ++ x ∷ []) (sym c.entry-item.is) in (
      c.in_ok-push_entry.ensures.terms ∙ c.loop-entry.invariant.0,
      c.in_ok-push_entry.ensures.history ∙ ap (λ (h : List Entry). h ++ item ∷ []) c.loop-entry.invariant.1 ∙ sym more,
      c.in_ok-push_entry.ensures.line
          ∙ ap (λ (out : List ℕ). out ++ line_behind book.terms book.history item) c.loop-entry.invariant.2
          ∙ ap (λ (t : Terms). lines_of terms (take at history) ++ line_behind t book.history item) c.loop-entry.invariant.0
          ∙ ap (λ (h : List Entry). lines_of terms (take at history) ++ line_behind terms h item) c.loop-entry.invariant.1
          ∙ sym (ap (lines_of terms) more ∙ lines_of-push terms (take at history) item),
    )
