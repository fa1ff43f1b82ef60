use Rattle.std.proofs.Common.{inl, inr, subst, sym, ap, ◌∙◌}
use Rattle.std.specs.Prelude.{MatchOption, Some}
use Rattle.std.proofs.lemmas.Option.{slice_get-get_or}
use Rattle.cc_book.specs.declared.entry.Entry.{Entry}
use Rattle.cc_book.specs.Duplicate.{has_key, key_of}
use Rattle.cc_book.specs.History.{IsNew, IsKeptAt}
use Rattle.cc_book.proofs.Placing.{new-before_place, new-unplaced, place-within}
use Rattle.cc_book.proofs.key.kept.Goals as goal

pub returns-in_err-place : goal.returns-in_err-place
returns-in_err-place c =
    let key = key_of c.args.request.now in
    subst (λ found. MatchOption found (IsNew c.args.history.now key) (λ x. IsKeptAt c.args.history.now key x.0 x.1.now)) (sym c.from_residual.ensures)
    (new-unplaced c.args.history.now key (sym (c.in_err-place.ensures c.args.history.now c.requires)))

pub unreachable-requires : goal.unreachable-requires
unreachable-requires c =
    let entry = c.index-history-place.result in
    let some = sym (c.in_ok-place.ensures c.args.history.now c.requires) in
    let at = place-within c.args.history.now (key_of c.args.request.now) c.in_ok-place.place entry some in
    elim c.in-Sweep.is as (λ _. ⊥) [
      | inl sweep ↦ let is = ap (has_key (key_of c.args.request.now)) (sym sweep.1 ∙ c.index-history-place.is) ∙ at.1 in cc
      | inr change ↦ let is = ap (has_key (key_of c.args.request.now)) (sym change.2 ∙ c.index-history-place.is) ∙ at.1 in cc
    ]

pub returns : goal.returns
returns c =
    let entry = c.index-history-place.result in
    let key = key_of c.args.request.now in
    let some = sym (c.in_ok-place.ensures c.args.history.now c.requires) in
    let at = place-within c.args.history.now key c.in_ok-place.place entry some in
    let is = sym c.in-Take.is ∙ c.index-history-place.is in
    record {
      within = at.0;
      new_before = new-before_place c.args.history.now key c.in_ok-place.place some;
      moment = c.in-Take.moment;
      entry = slice_get-get_or c.args.history.now c.in_ok-place.place entry at.0 ∙ ap (λ (e : Entry). Some e) (sym is);
      same = ap (has_key key) is ∙ at.1;
    }
