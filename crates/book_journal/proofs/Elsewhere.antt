-- What stands beside the rows of a book after one entry more, but where it was touched.
use Rattle.std.proofs.Common.{◌≡◌, ◌==◌, ℕ, ◌+◌, ◌-◌, ◌≤◌, ◌<◌, Bool, true, false, cond, List, [], ◌∷◌, ◌++◌, length, Option, Some, None, option_map, slice_get, refl, sym, ap, ◌∙◌, arith, true≢false, ◌⊎◌, inl, inr}
use Rattle.std.specs.Prelude.{◌≢◌, ℤ, pos, ◌-ℤ◌, nat_lt, count_by, Result}
use Rattle.std.specs.Fmt.{signed_decimal}
use Rattle.std.proofs.lemmas.Bool.{lt-ltb, ltb-true}
use Rattle.std.proofs.lemmas.Bool.Decides.{Decides-eqb}
use Rattle.std.proofs.lemmas.Int.{ints}
use Rattle.std.proofs.lemmas.List.{length-append}
use Rattle.std.proofs.lemmas.Option.{slice_get_past}
use Rattle.dia_base.specs.declared.number.Moment.{Moment}
use Rattle.cc_view.specs.declared.request.CcRequest.{CcRequest}
use Rattle.cc_book.specs.declared.account.Account.{Account}
use Rattle.cc_book.specs.declared.entry.Entry.{Entry}
use Rattle.cc_book.specs.declared.entry.Entry.TheVariants.{Take, Sweep, ChangeTerms}
use Rattle.cc_book.specs.declared.outcome.Change.{Change}
use Rattle.cc_book.specs.declared.outcome.Change.TheVariants.{Stays, Opens, GoesOn, Ends}
use Rattle.cc_book.specs.declared.plan.Plan.{Plan}
use Rattle.cc_book.specs.declared.plan.Taken.{Taken}
use Rattle.cc_book.specs.declared.session.OpenSession.{OpenSession}
use Rattle.cc_book.specs.declared.terms.Terms.{Terms}
use Rattle.cc_book.specs.declared.terms_change.TermsChange.{TermsChange}
use Rattle.cc_book.specs.AccountMachine.{charged_account, posting_of, postings_of, terms_of}
use Rattle.cc_book.specs.Balance.{balance_of, debit_of}
use Rattle.cc_book.specs.Changing.{with_change}
use Rattle.cc_book.specs.Planning.{IsGoodFor, IsTaking, after_plan}
use Rattle.cc_book.specs.Posting.{Posting, is_account}
use Rattle.cc_book.specs.Standing.{after_change, is_due, next_sessions, sessions_after, sessions_in, without_due}
use Rattle.cc_book.specs.Taking.{Ledger, with_sweep, with_take}
use Rattle.cc_book.proofs.Books.{sessions_after-push}
use Rattle.cc_book.proofs.Postings.{balance_of-sweep, balance_of-take, balance_of-there, postings_of-push, terms_of-change, terms_of-sweep, terms_of-take}
use Rattle.book_rows.specs.SessionParts.{session}
use Rattle.book_beside.specs.declared.write.Side.{Side}
use Rattle.book_beside.specs.declared.write.Side.TheVariants.{Accounts, Sessions}
use Rattle.book_journal.specs.declared.touched.Touched.{Touched}
use Rattle.book_journal.specs.Tables.{account_octets, is_due_in, is_touched, session_octets, standing, touched_of, CoversAccount, CoversChange, CoversDue, CoversFrom, Grows, IsGrown, IsSameBut}
use Rattle.book_journal.proofs.Touching.{below, left_length, left_there, slice_get-push, slice_get-set, slice_get-without_at, still_touched}

-- ---- sessions

apart : (places : List ℕ) (q place : ℕ) → is_touched q places ≡ false → is_touched place places ≡ true → q ≢ place
apart places q place not_there there e = true≢false (sym there ∙ ap (λ (n : ℕ). is_touched n places) (sym e) ∙ not_there)

pub change_elsewhere : (places : List ℕ) (sessions : List OpenSession) (change : Change) (q : ℕ) → CoversChange places (length sessions) change → is_touched q places ≡ false
    → slice_get (after_change sessions change) q ≡ slice_get sessions q
change_elsewhere places sessions Stays q covers not_there = refl
change_elsewhere places sessions (Opens session) q covers not_there = slice_get-push sessions session q (apart places q (length sessions) not_there covers)
change_elsewhere places sessions (GoesOn place session) q covers not_there = slice_get-set sessions place session q (apart places q place not_there covers)
change_elsewhere places sessions (Ends place) q covers not_there =
    slice_get-without_at sessions place q (apart places q place not_there covers.0) (λ last is. apart places q last not_there (covers.1 last is))

sessions_in-push : (terms : Terms) (history : List Entry) (entry : Entry)
    → sessions_in terms (history ++ entry ∷ []) ≡ next_sessions terms.validity (sessions_in terms history) (posting_of (terms_of terms history) (postings_of terms history) entry)
sessions_in-push terms history entry =
    ap (λ (ps : List Posting). sessions_after terms.validity ps) (postings_of-push terms history entry)
    ∙ sessions_after-push terms.validity (postings_of terms history) (posting_of (terms_of terms history) (postings_of terms history) entry)

taken_sessions : (ledger : Ledger) (taken : Taken) → IsTaking ledger taken
    → sessions_in ledger.terms (with_take ledger taken.moment taken.request).history ≡ after_change (sessions_in ledger.terms ledger.history) taken.outcome.change
taken_sessions ledger taken taking =
    sessions_in-push ledger.terms ledger.history (Take taken.moment taken.request)
    ∙ sym (ap (λ (change : Change). after_change (sessions_in ledger.terms ledger.history) change) taking.outcome.change)

-- the same sessions at a place are the same octets there
session_same : (before after : Ledger) (q : ℕ) → slice_get (sessions_in after.terms after.history) q ≡ slice_get (sessions_in before.terms before.history) q → session_octets after q ≡ session_octets before q
session_same before after q e = ap (λ (o : Option OpenSession). option_map session.spell o) e

-- ---- balances

account_by : ℕ → ℕ → ℤ → Option (List ℕ)
account_by place count balance = cond (nat_lt place count) (Some (signed_decimal balance)) None

account_same : (before after : Ledger) (q : ℕ) → (terms_of after.terms after.history).accounts ≡ (terms_of before.terms before.history).accounts → balance_of after.terms after.history q ≡ balance_of before.terms before.history q
    → account_octets after q ≡ account_octets before q
unfolding account_by
account_same before after q accounts balance =
    ap (λ (accounts : List Account). account_by q (length accounts) (balance_of after.terms after.history q)) accounts
    ∙ ap (account_by q (length (terms_of before.terms before.history).accounts)) balance

not_charged : (places : List ℕ) (q : ℕ) (account : Option ℕ) → CoversAccount places account → is_touched q places ≡ false → is_account q account ≡ false
not_charged places q None covers not_there = refl
not_charged places q (Some place) covers not_there = go (q == place) refl
  where
    go : (b : Bool) → (q == place) ≡ b → (q == place) ≡ false
    go false e = e
    go true e = absurd (apart places q place not_there covers ((Decides-eqb q place).0 e))

less_none : (x y d : ℤ) (b : Bool) → y ≡ x -ℤ cond b d (pos 0) → b ≡ false → y ≡ x
less_none x y d b is not_it =
    let none : cond b d (pos 0) ≡ pos 0 = ap (λ (c : Bool). cond c d (pos 0)) not_it in
    omega (arith, ints, is, none)

-- ---- a request

pub taken_elsewhere : (touched : Touched) (ledger : Ledger) (taken : Taken) → IsTaking ledger taken → CoversAccount touched.accounts.items taken.outcome.account
    → CoversChange touched.sessions.items (length (sessions_in ledger.terms ledger.history)) taken.outcome.change → IsSameBut touched ledger (with_take ledger taken.moment taken.request)
taken_elsewhere touched ledger taken taking account change Accounts q not_there =
    let after = with_take ledger taken.moment taken.request in
    let charged = charged_account (terms_of ledger.terms ledger.history) (postings_of ledger.terms ledger.history) taken.request in
    let other : is_account q charged ≡ false = ap (is_account q) (sym taking.outcome.account) ∙ not_charged touched.accounts.items q taken.outcome.account account not_there in
    account_same ledger after q (ap (λ (t : Terms). t.accounts) (terms_of-take ledger.terms ledger.history taken.moment taken.request))
    (less_none (balance_of ledger.terms ledger.history q) (balance_of after.terms after.history q) (debit_of ledger.terms ledger.history taken.request) (is_account q charged) (balance_of-take ledger.terms ledger.history taken.moment taken.request q) other)
taken_elsewhere touched ledger taken taking account change Sessions q not_there =
    session_same ledger (with_take ledger taken.moment taken.request) q
    (ap (λ (ss : List OpenSession). slice_get ss q) (taken_sessions ledger taken taking) ∙ change_elsewhere touched.sessions.items (sessions_in ledger.terms ledger.history) taken.outcome.change q change not_there)

pub nothing_taken : (touched : Touched) (ledger : Ledger) → IsSameBut touched ledger ledger
nothing_taken touched ledger side q not_there = refl

-- ---- a sweep

pub swept_elsewhere : (touched : Touched) (ledger : Ledger) (moment : Moment) (from : ℕ) → CoversDue touched.sessions.items ledger.terms.validity moment (sessions_in ledger.terms ledger.history)
    → CoversFrom touched.sessions.items from (length (sessions_in ledger.terms ledger.history))
    → from ≡ length (sessions_in ledger.terms ledger.history) - count_by (is_due ledger.terms.validity moment) (sessions_in ledger.terms ledger.history) → IsSameBut touched ledger (with_sweep ledger moment)
swept_elsewhere touched ledger moment from due last at Accounts q not_there =
    account_same ledger (with_sweep ledger moment) q (ap (λ (t : Terms). t.accounts) (terms_of-sweep ledger.terms ledger.history moment)) (balance_of-sweep ledger.terms ledger.history moment q)
swept_elsewhere touched ledger moment from due last at Sessions q not_there =
    session_same ledger (with_sweep ledger moment) q (ap (λ (ss : List OpenSession). slice_get ss q) (sessions_in-push ledger.terms ledger.history (Sweep moment)) ∙ same)
  where
    validity : ℕ
    validity = ledger.terms.validity

    sessions : List OpenSession
    sessions = sessions_in ledger.terms ledger.history

    lasts : is_due_in ledger.terms.validity moment (sessions_in ledger.terms ledger.history) q ≡ false
    lasts = go (is_due_in ledger.terms.validity moment (sessions_in ledger.terms ledger.history) q) refl
      where
        go : (b : Bool) → is_due_in ledger.terms.validity moment (sessions_in ledger.terms ledger.history) q ≡ b → is_due_in ledger.terms.validity moment (sessions_in ledger.terms ledger.history) q ≡ false
        go false e = e
        go true e = absurd (true≢false (sym (due q e) ∙ not_there))

    same : slice_get (without_due ledger.terms.validity moment (sessions_in ledger.terms ledger.history)) q ≡ slice_get (sessions_in ledger.terms ledger.history) q
    same =
        let ss = sessions_in ledger.terms ledger.history in
        let left = left_length ledger.terms.validity moment ss in
        let go : (q < length (without_due ledger.terms.validity moment ss)) ⊎ (length (without_due ledger.terms.validity moment ss) ≤ q) → slice_get (without_due ledger.terms.validity moment ss) q ≡ slice_get ss q =
        λ h. elim h [
          | inl lt ↦ left_there ledger.terms.validity moment ss q lasts lt
          | inr le ↦ elim (below q (length ss)) [
            | inl lt ↦ absurd (true≢false (sym (last q (omega (arith, at, left, le)) lt) ∙ not_there))
            | inr past ↦ slice_get_past (without_due ledger.terms.validity moment ss) q le ∙ sym (slice_get_past ss q past)
          ]
        ] in
        go (below q (length (without_due ledger.terms.validity moment ss)))

-- ---- a change of the terms

is_false : (b : Bool) → (b ≡ true → ⊥) → b ≡ false
is_false true apart = absurd (apart refl)
is_false false apart = refl

nat_lt-past : (q n : ℕ) → n ≤ q → nat_lt q n ≡ false
nat_lt-past q n le = is_false (nat_lt q n) (λ e. absurd (omega (arith, le, ltb-true q n e)))

pub account_past : (ledger : Ledger) (q : ℕ) → length (terms_of ledger.terms ledger.history).accounts ≤ q → account_octets ledger q ≡ None
account_past ledger q le = ap (λ (b : Bool). cond b (Some (signed_decimal (balance_of ledger.terms ledger.history q))) None) (nat_lt-past q (length (terms_of ledger.terms ledger.history).accounts) le)

account_there : (ledger : Ledger) (q : ℕ) → q < length (terms_of ledger.terms ledger.history).accounts → account_octets ledger q ≡ Some (signed_decimal (balance_of ledger.terms ledger.history q))
account_there ledger q lt = ap (λ (b : Bool). cond b (Some (signed_decimal (balance_of ledger.terms ledger.history q))) None) (lt-ltb q (length (terms_of ledger.terms ledger.history).accounts) lt)

pub changed_elsewhere : (touched : Touched) (ledger : Ledger) (moment : Moment) (change : TermsChange)
    → CoversFrom touched.accounts.items (length (terms_of ledger.terms ledger.history).accounts) (length (terms_of ledger.terms ledger.history).accounts + length change.joining) → IsSameBut touched ledger (with_change ledger moment change)
changed_elsewhere touched ledger moment change covers Sessions q not_there =
    session_same ledger (with_change ledger moment change) q (ap (λ (ss : List OpenSession). slice_get ss q) (sessions_in-push ledger.terms ledger.history (ChangeTerms moment change)))
changed_elsewhere touched ledger moment change covers Accounts q not_there =
    let after = with_change ledger moment change in
    let accounts = (terms_of ledger.terms ledger.history).accounts in
    let longer : length (terms_of after.terms after.history).accounts ≡ length accounts + length change.joining =
    ap (λ (t : Terms). length t.accounts) (terms_of-change ledger.terms ledger.history moment change) ∙ length-append accounts change.joining in
    elim (below q (length accounts)) [
      | inl lt ↦
          account_there after q (omega (arith, lt, longer))
          ∙ ap (λ (balance : ℤ). Some (signed_decimal balance)) (balance_of-there ledger.terms ledger.history moment change q lt)
          ∙ sym (account_there ledger q lt)
      | inr le ↦ elim (below q (length accounts + length change.joining)) [
        | inl lt ↦ absurd (true≢false (sym (covers q le lt) ∙ not_there))
        | inr past ↦ account_past after q (omega (arith, past, longer)) ∙ sym (account_past ledger q le)
      ]
    ]

-- ---- places that were touched before

pub grown_twice : (old mid new : Touched) → IsGrown old mid → IsGrown mid new → IsGrown old new
grown_twice old mid new first second side q not_there = first side q (second side q not_there)

pub same_but_more : (old new : Touched) (before after : Ledger) → IsGrown old new → IsSameBut old before after → IsSameBut new before after
same_but_more old new before after grown same side q not_there = same side q (grown side q not_there)

pub same_but_twice : (touched : Touched) (first before after : Ledger) → IsSameBut touched first before → IsSameBut touched before after → IsSameBut touched first after
same_but_twice touched first before after one other side q not_there = other side q not_there ∙ one side q not_there
