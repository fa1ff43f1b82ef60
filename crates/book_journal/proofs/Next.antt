-- The row of what a book has more than before.
use Rattle.std.proofs.Common.{◌≡◌, ℕ, List, [], ◌∷◌, ◌++◌, Bool, true, false, map, refl, sym, ap, ◌∙◌, cond}
use Rattle.std.specs.Prelude.{Option, Some, None, is_none}
use Rattle.std.specs.Global.{Vec}
use Rattle.std.proofs.lemmas.List.{append-nil}
use Rattle.dia_base.specs.declared.number.Moment.{Moment}
use Rattle.cc_view.specs.declared.request.CcRequest.{CcRequest}
use Rattle.cc_book.specs.declared.terms.Terms.{Terms}
use Rattle.cc_book.specs.Taking.{Ledger, with_sweep, with_take}
use Rattle.book_rows.specs.declared.row.Row.{Row}
use Rattle.book_rows.specs.declared.row.Sum.{Sum}
use Rattle.book_rows.specs.Row.{spelled}
use Rattle.book_entries.specs.Replayed.{HasTaken, stored_in, sum_in}
use Rattle.book_entries.specs.Rows.{last_sum, one_or_none, rows_of, stored_of, sum_of}
use Rattle.book_entries.proofs.Pushed.{has_taken}
use Rattle.book_journal.specs.declared.journal.NewRow.{NewRow}
use Rattle.book_beside.specs.Beside.{Beside}
use Rattle.book_journal.specs.declared.touched.Touched.{Touched}
use Rattle.book_journal.specs.Kept.{Follows, IsNextIn, IsUnder, KeepsIn}
use Rattle.book_journal.specs.Tables.{IsSameBut}

-- the book behind a plan is under the terms of the book before it
same_terms : (b : Bool) (moment : Moment) (request : CcRequest) (before after : Ledger) → after ≡ cond b (with_take before moment request) before → after.terms ≡ before.terms
same_terms true moment request before after e = ap (λ (l : Ledger). l.terms) e
same_terms false moment request before after e = ap (λ (l : Ledger). l.terms) e

same_limit : (b : Bool) (moment : Moment) (request : CcRequest) (before after : Ledger) → after ≡ cond b (with_take before moment request) before → after.limit ≡ before.limit
same_limit true moment request before after e = ap (λ (l : Ledger). l.limit) e
same_limit false moment request before after e = ap (λ (l : Ledger). l.limit) e

pub still_under : (b : Bool) (moment : Moment) (request : CcRequest) (before after : Ledger) → after ≡ cond b (with_take before moment request) before → IsUnder before after
still_under b moment request before after e = record { terms = same_terms b moment request before after e; limit = same_limit b moment request before after e }

-- nothing more is stored
pub none_more : (before after : Ledger) → after.terms ≡ before.terms → rows_of before.terms after.history ≡ rows_of before.terms before.history ++ [] → Follows before after None
unfolding stored_of sum_of
none_more before after terms rows =
    let same : rows_of after.terms after.history ≡ rows_of before.terms before.history =
    ap (λ (t : Terms). rows_of t after.history) terms ∙ rows ∙ append-nil (rows_of before.terms before.history) in
    (ap (map spelled) same, ap (last_sum 0) same)

-- the sum of a book that is kept in a store
pub kept_sum : {S : Type 0} (is_clean is_ready : S → Type 0) (rows : S → List (List ℕ)) (beside : S → Beside) (store : Option S) (waiting : List (Vec ℕ)) (touched : Touched) (sum : ℕ) (ledger : Ledger) → is_none store ≡ false
    → KeepsIn is_clean is_ready rows beside store waiting touched sum ledger → sum ≡ sum_in ledger
kept_sum is_clean is_ready rows beside None waiting touched sum ledger some kept = absurd cc
kept_sum is_clean is_ready rows beside (Some store) waiting touched sum ledger some kept = kept.last

-- nothing follows where nothing is stored
pub none_is_next : {S : Type 0} (store : Option S) (touched : Touched) (before after : Ledger) → is_none store ≡ true → IsNextIn store touched before after None
none_is_next None touched before after none = refl
none_is_next (Some store) touched before after none = absurd cc

-- what follows is the next row where something is stored
pub follows_next : {S : Type 0} (store : Option S) (touched : Touched) (before after : Ledger) (row : Option NewRow) → is_none store ≡ false → IsUnder before after → IsSameBut touched before after → Follows before after row
    → IsNextIn store touched before after row
follows_next None touched before after row some under same follows = absurd cc
follows_next (Some store) touched before after row some under same follows = (follows, under, same)

-- a plan that takes nothing has no row
pub no_row_next : {S : Type 0} (store : Option S) (touched : Touched) (before after : Ledger) (found : Option Row) → is_none store ≡ false → ((r : Row) → found ≡ Some r → ⊥) → IsUnder before after → IsSameBut touched before after
    → rows_of before.terms after.history ≡ rows_of before.terms before.history ++ one_or_none found → IsNextIn store touched before after None
no_row_next store touched before after None some not under same rows = follows_next store touched before after None some under same (none_more before after under.terms rows)
no_row_next store touched before after (Some r) some not under same rows = absurd (not r refl)

-- the octets and the sum of the row of what a book has more
pub row_next : {S : Type 0} (store : Option S) (touched : Touched) (before after : Ledger) (row : Row) (new : NewRow) → is_none store ≡ false → IsUnder before after → IsSameBut touched before after
    → rows_of before.terms after.history ≡ rows_of before.terms before.history ++ row ∷ [] → new.octets.items ≡ spelled row → new.sum ≡ row.sum → IsNextIn store touched before after (Some new)
row_next store touched before after row new some under same rows octets sum =
    follows_next store touched before after (Some new) some under same
    (has_taken before after row new.octets.items new.sum.0 under.terms under.limit rows (sym octets) (ap (λ (s : Sum). s.0) sum))
