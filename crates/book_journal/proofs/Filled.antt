-- What stands beside the rows of a book when it is opened.
use Rattle.std.proofs.Common.{◌≡◌, ℕ, zero, suc, ◌+◌, ◌<◌, ◌≤◌, Bool, true, false, cond, List, [], ◌∷◌, length, get_or, Option, Some, None, option_map, slice_get, refl, sym, ap, subst, ◌∙◌, arith, true≢false, ◌⊎◌, inl, inr}
use Rattle.std.specs.Prelude.{find, negsuc, pos, nat_lt}
use Rattle.std.specs.Option.{option_map_or}
use Rattle.std.specs.Fmt.{signed_decimal}
use Rattle.std.proofs.lemmas.Option.{slice_get-get_or, slice_get_past}
use Rattle.sqlite_value.specs.Order.{Row}
use Rattle.sqlite_trees.specs.Tree.{has_rowid}
use Rattle.cc_book.specs.declared.session.OpenSession.{OpenSession}
use Rattle.cc_book.specs.declared.terms.Terms.{Terms}
use Rattle.cc_book.specs.AccountMachine.{postings_of, terms_of}
use Rattle.cc_book.specs.Standing.{sessions_after, sessions_in}
use Rattle.cc_book.specs.Taking.{Ledger}
use Rattle.cc_book.proofs.Postings.{terms_of-empty}
use Rattle.book_rows.specs.SessionParts.{session}
use Rattle.book_beside.specs.Beside.{Beside, nothing, placed, row_at, table_of}
use Rattle.book_beside.specs.declared.write.Side.{Side}
use Rattle.book_beside.specs.declared.write.Side.TheVariants.{Accounts, Sessions}
use Rattle.book_store.specs.Table.{rows_in, stored, table_from, IsCounted, IsInOrder}
use Rattle.book_store.proofs.Scanned.{no_rows}
use Rattle.book_store.proofs.Places.{low_from, row_at-from}
use Rattle.book_journal.specs.declared.touched.Touched.{Touched}
use Rattle.book_journal.specs.Tables.{account_octets, is_touched, session_octets, standing, touched_of, CoversFrom, Has, IsBeside, IsCountOf, IsSameBut}
use Rattle.book_journal.proofs.Touching.{below}
use Rattle.book_journal.proofs.Elsewhere.{account_past}

-- beyond the last place nothing stands
pub standing_past : (side : Side) (ledger : Ledger) (count q : ℕ) → IsCountOf side ledger count → count ≤ q → standing side ledger q ≡ None
standing_past Accounts ledger count q is le = account_past ledger q (omega (arith, is, le))
standing_past Sessions ledger count q is le =
    ap (λ (o : Option OpenSession). option_map session.spell o) (slice_get_past (sessions_in ledger.terms ledger.history) q (omega (arith, is, le)))

-- ---- a table that is compared

-- a table in order has at each place what is so there in its list
has_of : (table : List Row) (octets : ℕ → Option (List ℕ)) → IsInOrder table → ((q : ℕ) → octets q ≡ slice_get (rows_in table) q) → Has table octets
has_of table octets order same = record {
  at = λ q. ap (λ (t : List Row). row_at t q) order ∙ row_at-from (rows_in table) q ∙ ap (option_map (placed q)) (sym (same q));
  low = λ n. ap (λ (t : List Row). find (has_rowid (negsuc n)) t) order ∙ low_from (rows_in table) n;
}

pub has_compared : (side : Side) (ledger : Ledger) (table : List Row) (count : ℕ) → IsCounted table count → IsCountOf side ledger count → ((q : ℕ) → q < count → standing side ledger q ≡ Some (get_or (rows_in table) q [])) → Has table (standing side ledger)
has_compared side ledger table count counted is same = has_of table (standing side ledger) counted.order at
  where
    at : (q : ℕ) → standing side ledger q ≡ slice_get (rows_in table) q
    at q = elim (below q count) [
      | inl lt ↦ same q lt ∙ sym (slice_get-get_or (rows_in table) q [] (omega (arith, lt, counted.count)))
      | inr le ↦ standing_past side ledger count q is le ∙ sym (slice_get_past (rows_in table) q (omega (arith, le, counted.count)))
    ]

-- ---- tables that are filled

-- a book under the same terms with no account and no entry
pub bare : Ledger → Ledger
bare ledger = record { terms = record ledger.terms { accounts = [] }; limit = ledger.limit; history = [] }

bare_stands : (side : Side) (ledger : Ledger) (q : ℕ) → standing side (bare ledger) q ≡ None
unfolding bare sessions_after postings_of
bare_stands Accounts ledger q =
    account_past (bare ledger) q (omega (arith, ap {B = ℕ} (λ (t : Terms). length t.accounts) (terms_of-empty (record ledger.terms { accounts = [] }))))
bare_stands Sessions ledger q = refl

empty_has : (side : Side) (ledger : Ledger) (table : List Row) → IsCounted table 0 → Has table (standing side (bare ledger))
empty_has side ledger table none =
    let empty : table ≡ [] = no_rows table none.count in
    record {
      at = λ q. ap (λ (t : List Row). row_at t q) empty ∙ sym (ap (option_map (placed q)) (bare_stands side ledger q));
      low = λ n. ap (λ (t : List Row). find (has_rowid (negsuc n)) t) empty;
    }

-- where no row stands beside it, what stands is that of a book without accounts
pub bare_beside : (ledger : Ledger) (beside : Beside) → ((side : Side) → IsCounted (table_of side beside) 0) → IsBeside (bare ledger) beside
bare_beside ledger beside none side = empty_has side ledger (table_of side beside) (none side)

-- from which a book differs at its places alone
pub bare_elsewhere : (touched : Touched) (ledger : Ledger) → CoversFrom touched.accounts.items 0 (length (terms_of ledger.terms ledger.history).accounts) → CoversFrom touched.sessions.items 0 (length (sessions_in ledger.terms ledger.history))
    → IsSameBut touched (bare ledger) ledger
bare_elsewhere touched ledger accounts sessions Accounts q not_there =
    let count = length (terms_of ledger.terms ledger.history).accounts in
    elim (below q count) [
      | inl lt ↦ absurd (true≢false (sym (accounts q (omega arith) lt) ∙ not_there))
      | inr le ↦ standing_past Accounts ledger count q refl le ∙ sym (bare_stands Accounts ledger q)
    ]
bare_elsewhere touched ledger accounts sessions Sessions q not_there =
    let count = length (sessions_in ledger.terms ledger.history) in
    elim (below q count) [
      | inl lt ↦ absurd (true≢false (sym (sessions q (omega arith) lt) ∙ not_there))
      | inr le ↦ standing_past Sessions ledger count q refl le ∙ sym (bare_stands Sessions ledger q)
    ]

-- one place more is alike
pub one_more_alike : (side : Side) (ledger : Ledger) (first now : Beside) (place : ℕ) → now ≡ first → standing side ledger place ≡ Some (get_or (rows_in (table_of side now)) place [])
    → ((q : ℕ) → q < place → standing side ledger q ≡ Some (get_or (rows_in (table_of side first)) q [])) → (q : ℕ) → q < place + 1 → standing side ledger q ≡ Some (get_or (rows_in (table_of side first)) q [])
one_more_alike side ledger first now place same here before q lt = elim (below q place) [
  | inl less ↦ before q less
  | inr le ↦
      let at : place ≡ q = omega (arith, le, lt) in
      subst (λ (n : ℕ). standing side ledger n ≡ Some (get_or (rows_in (table_of side first)) n [])) at (here ∙ ap (λ (b : Beside). Some (get_or (rows_in (table_of side b)) place [])) same)
]

pub order_still : (side : Side) (first now : Beside) (count : ℕ) → now ≡ first → IsCounted (table_of side first) count → IsInOrder (table_of side now)
order_still side first now count same counted = let P : Beside → Type 0 = λ b. IsInOrder (table_of side b) in subst P (sym same) counted.order

pub within_still : (side : Side) (first now : Beside) (count place : ℕ) → now ≡ first → IsCounted (table_of side first) count → place < count → place < length (rows_in (table_of side now))
within_still side first now count place same counted lt = subst (λ (b : Beside). place < length (rows_in (table_of side b))) (sym same) (omega (arith, lt, counted.count))

pub counted_still : (side : Side) (first now : Beside) (count : ℕ) → now ≡ first → IsCounted (table_of side first) count → IsCounted (table_of side now) count
counted_still side first now count same counted = subst (λ (b : Beside). IsCounted (table_of side b) count) (sym same) counted

pub has_still : (side : Side) (ledger : Ledger) (first now : Beside) → now ≡ first → Has (table_of side now) (standing side ledger) → Has (table_of side first) (standing side ledger)
has_still side ledger first now same has = subst (λ (b : Beside). Has (table_of side b) (standing side ledger)) same has

-- both tables
pub both_counted : (beside : Beside) → IsCounted beside.accounts 0 → IsCounted beside.sessions 0 → (side : Side) → IsCounted (table_of side beside) 0
both_counted beside accounts sessions Accounts = accounts
both_counted beside accounts sessions Sessions = sessions

pub both_stand : (ledger : Ledger) (beside : Beside) → Has beside.accounts (standing Accounts ledger) → Has beside.sessions (standing Sessions ledger) → IsBeside ledger beside
both_stand ledger beside accounts sessions Accounts = accounts
both_stand ledger beside accounts sessions Sessions = sessions
