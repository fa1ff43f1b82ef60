-- A book into which stored rows are taken, one after the other.
use Rattle.std.proofs.Common.{◌≡◌, ℕ, ◌+◌, ◌<◌, ◌≤◌, List, [], ◌∷◌, ◌++◌, length, take, get_or, refl, sym, ap, ◌∙◌}
use Rattle.std.proofs.lemmas.List.{take_all, take_more}
use Rattle.cc_book.specs.declared.entry.Entry.{Entry}
use Rattle.cc_book.specs.Taking.{Ledger}
use Rattle.book_entries.specs.Replayed.{HasTaken, stored_in, sum_in}
use Rattle.book_entries.specs.Rows.{rows_of, stored_of, sum_of}
use Rattle.book_journal.specs.Kept.{IsUnder}

pub nothing_stored : (ledger : Ledger) → ledger.history ≡ [] → stored_in ledger ≡ []
unfolding stored_of rows_of
nothing_stored ledger e = ap (λ (h : List Entry). stored_of ledger.terms h) e

pub no_sum : (ledger : Ledger) → ledger.history ≡ [] → sum_in ledger ≡ 0
unfolding sum_of rows_of
no_sum ledger e = ap (λ (h : List Entry). sum_of ledger.terms h) e

-- one more of the rows was taken
pub one_more_taken : (rows now : List (List ℕ)) (place : ℕ) (before after : Ledger) (octets : List ℕ) (sum : ℕ) → place < length rows → now ≡ rows → octets ≡ get_or now place [] → HasTaken before after octets sum → stored_in before ≡ take place rows
    → stored_in after ≡ take (place + 1) rows
one_more_taken rows now place before after octets sum within same is taken e =
    taken.stored
    ∙ ap (λ (front : List (List ℕ)). front ++ octets ∷ []) e
    ∙ ap (λ (o : List ℕ). take place rows ++ o ∷ []) (is ∙ ap (λ (rs : List (List ℕ)). get_or rs place []) same)
    ∙ sym (take_more rows place [] within)

pub still_under : (first before after : Ledger) (octets : List ℕ) (sum : ℕ) → HasTaken before after octets sum → IsUnder first before → IsUnder first after
still_under first before after octets sum taken under = record { terms = taken.terms ∙ under.terms; limit = taken.limit ∙ under.limit }

pub all_taken : (rows : List (List ℕ)) (place : ℕ) (ledger : Ledger) → length rows ≤ place → stored_in ledger ≡ take place rows → rows ≡ stored_in ledger
all_taken rows place ledger le e = sym (e ∙ take_all place rows le)
