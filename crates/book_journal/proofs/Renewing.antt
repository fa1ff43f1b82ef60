-- What stands beside the rows behind the writes of a book.
use Rattle.std.proofs.Common.{◌≡◌, ◌==◌, ℕ, ◌+◌, ◌<◌, ◌≤◌, Bool, true, false, cond, List, [], ◌∷◌, ◌++◌, length, take, get_or, Option, Some, None, option_map, slice_get, refl, sym, ap, subst, ◌∙◌, arith, true≢false}
use Rattle.std.specs.Prelude.{find, negsuc, pos}
use Rattle.std.proofs.lemmas.Bool.Decides.{Decides-eqb}
use Rattle.std.proofs.lemmas.List.{take_all, take_more}
use Rattle.sqlite_value.specs.Order.{Row}
use Rattle.sqlite_trees.specs.Tree.{has_rowid, put_row, without_rowid}
use Rattle.cc_book.specs.declared.session.OpenSession.{OpenSession}
use Rattle.cc_book.specs.Standing.{sessions_in}
use Rattle.cc_book.specs.Taking.{Ledger}
use Rattle.book_rows.specs.Form.{Adds}
use Rattle.book_rows.specs.SessionParts.{session}
use Rattle.std.proofs.lemmas.Option.{slice_get_past}
use Rattle.book_beside.specs.Beside.{Beside, placed, row_at, table_of, written, written_all}
use Rattle.book_beside.specs.declared.write.Side.{Side}
use Rattle.book_beside.specs.declared.write.Side.TheVariants.{Accounts, Sessions}
use Rattle.book_beside.specs.declared.write.Write.{Write}
use Rattle.book_beside.proofs.Looked.{low-put, low-without, row_at-put, row_at-without}
use Rattle.book_journal.specs.declared.touched.Touched.{Touched}
use Rattle.book_journal.specs.Tables.{edited, is_touched, other_than, session_octets, standing, touched_of, Has, IsBeside, IsEdited, IsRenewed, IsSameBut}
use Rattle.book_journal.proofs.Touching.{touched_more}

pub written_all-push : (beside : Beside) (writes : List Write) (write : Write) → written_all beside (writes ++ write ∷ []) ≡ written (written_all beside writes) write
written_all-push beside [] write = refl
written_all-push beside (first ∷ writes) write = written_all-push (written beside first) writes write

-- ---- one table at a place

edited_at : (place : ℕ) (octets : Option (List ℕ)) (table : List Row) (q : ℕ) → row_at (edited place octets table) q ≡ cond (place == q) (option_map (placed place) octets) (row_at table q)
edited_at place (Some octets) table q = row_at-put table place octets q
edited_at place None table q = row_at-without table place q

edited_low : (place : ℕ) (octets : Option (List ℕ)) (table : List Row) (n : ℕ) → find (has_rowid (negsuc n)) (edited place octets table) ≡ find (has_rowid (negsuc n)) table
edited_low place (Some octets) table n = low-put table place octets n
edited_low place None table n = low-without table place n

module _ (side : Side) (ledger : Ledger) where
  pub renewed_none : (beside : Beside) → IsRenewed side ledger [] beside beside
  renewed_none beside = record { at = λ place. refl; low = λ low. low; other = refl }

  pub renewed_more : (places : List ℕ) (place : ℕ) (old mid new : Beside) → IsRenewed side ledger places old mid → IsEdited side place (standing side ledger place) mid new → IsRenewed side ledger (places ++ place ∷ []) old new
  renewed_more places place old mid new so_far edit = record {
    at = at;
    low = λ low n. ap (λ (t : List Row). find (has_rowid (negsuc n)) t) edit.table ∙ edited_low place (standing side ledger place) (table_of side mid) n ∙ so_far.low low n;
    other = edit.other ∙ so_far.other;
  }
    where
      here : ℕ → Option Row
      here q = option_map (placed q) (standing side ledger q)

      before : ℕ → Option Row
      before q = row_at (table_of side old) q

      both : (q : ℕ) (b : Bool) → (place == q) ≡ b → cond b (option_map (placed place) (standing side ledger place)) (cond (is_touched q places) (here q) (before q)) ≡ cond (cond (q == place) true (is_touched q places)) (here q) (before q)
      both q true e =
          let same : place ≡ q = (Decides-eqb place q).0 e in
          let turned : (q == place) ≡ true = (Decides-eqb q place).1 (sym same) in
          ap here same ∙ sym (ap (λ (b : Bool). cond (cond b true (is_touched q places)) (here q) (before q)) turned)
      both q false e = sym (ap (λ (b : Bool). cond (cond b true (is_touched q places)) (here q) (before q)) (turned (q == place) refl))
        where
          turned : (b : Bool) → (q == place) ≡ b → (q == place) ≡ false
          turned false t = t
          turned true t = absurd (true≢false (sym ((Decides-eqb place q).1 (sym ((Decides-eqb q place).0 t))) ∙ e))

      at : (q : ℕ) → row_at (table_of side new) q ≡ cond (is_touched q (places ++ place ∷ [])) (here q) (before q)
      at q =
          ap (λ (t : List Row). row_at t q) edit.table
          ∙ edited_at place (standing side ledger place) (table_of side mid) q
          ∙ ap (cond (place == q) (option_map (placed place) (standing side ledger place))) (so_far.at q)
          ∙ both q (place == q) refl
          ∙ sym (ap (λ (b : Bool). cond b (here q) (before q)) (touched_more q place places))

  -- a table that was a book's but where it was touched is this one's
  pub has_renewed : (was : Ledger) (places : List ℕ) (old new : Beside) → ((q : ℕ) → is_touched q places ≡ false → standing side ledger q ≡ standing side was q) → Has (table_of side old) (standing side was) → IsRenewed side ledger places old new
      → Has (table_of side new) (standing side ledger)
  has_renewed was places old new same has renewed = record {
    at = λ q. renewed.at q ∙ go q (is_touched q places) refl;
    low = renewed.low has.low;
  }
    where
      go : (q : ℕ) (b : Bool) → is_touched q places ≡ b → cond b (option_map (placed q) (standing side ledger q)) (row_at (table_of side old) q) ≡ option_map (placed q) (standing side ledger q)
      go q true e = refl
      go q false e = has.at q ∙ ap (option_map (placed q)) (sym (same q e))

-- both tables
pub beside_renewed : (ledger was : Ledger) (touched : Touched) (old mid new : Beside) → IsSameBut touched was ledger → IsBeside was old → IsRenewed Accounts ledger touched.accounts.items old mid → IsRenewed Sessions ledger touched.sessions.items mid new
    → IsBeside ledger new
beside_renewed ledger was touched old mid new same stands accounts sessions Accounts =
    let has : Has (table_of Accounts mid) (standing Accounts ledger) = has_renewed Accounts ledger was touched.accounts.items old mid (same Accounts) (stands Accounts) accounts in
    subst (λ (t : List Row). Has t (standing Accounts ledger)) (sym sessions.other) has
beside_renewed ledger was touched old mid new same stands accounts sessions Sessions =
    let has : Has (table_of Sessions mid) (standing Sessions was) = subst (λ (t : List Row). Has t (standing Sessions was)) (sym accounts.other) (stands Sessions) in
    has_renewed Sessions ledger was touched.sessions.items mid new (same Sessions) has sessions

-- one write more
pub push_renewed : (side : Side) (ledger : Ledger) (places : List ℕ) (i d : ℕ) (writes more : List Write) (write : Write) (octets : Option (List ℕ)) (old beside : Beside) → i < length places
    → more ≡ writes ++ write ∷ [] → octets ≡ standing side ledger (get_or places i d) → ((b : Beside) → IsEdited side (get_or places i d) octets b (written b write)) → IsRenewed side ledger (take i places) old (written_all beside writes)
    → IsRenewed side ledger (take (i + 1) places) old (written_all beside more)
push_renewed side ledger places i d writes more write octets old beside lt pushed is edit so_far =
    let place = get_or places i d in
    let longer : take (i + 1) places ≡ take i places ++ place ∷ [] = take_more places i d lt in
    let one : IsEdited side place (standing side ledger place) (written_all beside writes) (written (written_all beside writes) write) =
    subst (λ (o : Option (List ℕ)). IsEdited side place o (written_all beside writes) (written (written_all beside writes) write)) is (edit (written_all beside writes)) in
    let there : written (written_all beside writes) write ≡ written_all beside more = sym (ap (written_all beside) pushed ∙ written_all-push beside writes write) in
    let all = renewed_more side ledger (take i places) place old (written_all beside writes) (written (written_all beside writes) write) so_far one in
    subst (λ (ps : List ℕ). IsRenewed side ledger ps old (written_all beside more)) (sym longer)
    (subst (λ (b : Beside). IsRenewed side ledger (take i places ++ place ∷ []) old b) there all)

pub all_renewed : (side : Side) (ledger : Ledger) (places : List ℕ) (i : ℕ) (old new : Beside) → length places ≤ i → IsRenewed side ledger (take i places) old new → IsRenewed side ledger places old new
all_renewed side ledger places i old new le renewed = subst (λ (ps : List ℕ). IsRenewed side ledger ps old new) (take_all i places le) renewed

-- ---- what stands, spelled

pub session_spelled : (ledger : Ledger) (place : ℕ) (s : OpenSession) (octets : List ℕ) → slice_get (sessions_in ledger.terms ledger.history) place ≡ Some s → Adds session s [] octets → Some octets ≡ session_octets ledger place
session_spelled ledger place s octets there added = ap (λ (o : List ℕ). Some o) added.spelled ∙ sym (ap (λ (o : Option OpenSession). option_map session.spell o) there)

pub no_session : (ledger : Ledger) (place : ℕ) → length (sessions_in ledger.terms ledger.history) ≤ place → None ≡ session_octets ledger place
no_session ledger place past = sym (ap (λ (o : Option OpenSession). option_map session.spell o) (slice_get_past (sessions_in ledger.terms ledger.history) place past))
