use Rattle.std.proofs.Common.{◌≡◌, [], List, ap, sym, ◌∙◌}
use Rattle.std.proofs.lemmas.List.{append-nil}
use Rattle.cc_book.specs.declared.entry.Entry.{Entry}
use Rattle.cc_shared.specs.declared.logged.Logged.{Logged}
use Rattle.cc_shared.specs.History.{book_at, entries_in, is_closed}
use Rattle.cc_shared.specs.Sharing.{takes_in}
use Rattle.cc_shared.proofs.kept.KeptBook.new.Goals as goal

pub invariant_of-result : goal.invariant_of-result
invariant_of-result g c =
    let opened = g.L.Sharing.shared.opened in
    let empty : c.args.seen ≡ [] = c.requires.seen in (
      c.requires.book ∙ ap (λ (h : List Entry). record opened { history = h }) (sym (append-nil opened.history)) ∙ ap (λ (l : List Logged). book_at opened l) (sym empty),
      ap is_closed empty,
      ap (λ (l : List Logged). takes_in (entries_in l)) empty,
      c.requires.counted,
      c.requires.rest.0,
      c.requires.rest.1,
      c.requires.kept,
      c.requires.settled,
      c.requires.stored,
    )
