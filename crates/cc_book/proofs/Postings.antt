-- Histories and what their entries did.
use Rattle.std.proofs.Common.{◌≡◌, ℕ, zero, suc, ◌+◌, ◌<◌, cond, List, [], ◌∷◌, ◌++◌, length, length-append, All, refl, ap, ◌∙◌, arith}
use Rattle.std.specs.Prelude.{pos, ◌+ℤ◌, ◌-ℤ◌}
use Rattle.std.specs.List.{fold, AllByRecursion}
use Rattle.std.proofs.lemmas.Int.{ints}
use Rattle.std.proofs.lemmas.List.Elements.{All-head, All-tail}
use Rattle.std.proofs.lemmas.List.Sums.{fold-append}
use Rattle.dia_base.specs.declared.number.Moment.{Moment}
use Rattle.cc_view.specs.declared.request.CcRequest.{CcRequest}
use Rattle.cc_view.specs.declared.request.Subscription.{Subscription}
use Rattle.cc_book.specs.declared.entry.Entry.{Entry}
use Rattle.cc_book.specs.declared.entry.Entry.TheVariants.{Take, Sweep, ChangeTerms}
use Rattle.cc_book.specs.declared.account.Account.{Account}
use Rattle.cc_book.specs.declared.terms.Terms.{Terms}
use Rattle.cc_book.specs.declared.terms_change.TermsChange.{TermsChange}
use Rattle.cc_rating.specs.declared.tariff.Tariff.{Tariff}
use Rattle.cc_book.specs.AccountMachine.{accounts_at, charged_account, closed_at, post, posting_of, postings_of, opening_at, tariffs_at, terms_at, terms_of}
use Rattle.cc_book.specs.Balance.{debit_of, balance_of, spent_by}
use Rattle.cc_book.specs.Posting.{Posting, is_account, debit_to, debits_to}
use Rattle.cc_book.specs.Laws.{KeepsTerms}
use Rattle.cc_book.specs.TermsChange.{accounts_with, changed_terms, closed_with, tariffs_with, terms_with}

pub postings_of-push : (terms : Terms) (history : List Entry) (entry : Entry)
    → postings_of terms (history ++ entry ∷ []) ≡ post terms (postings_of terms history) entry
unfolding postings_of
postings_of-push terms history entry = fold-append (post terms) [] history (entry ∷ [])

-- ---- the terms of a place

-- what a posting is of
pub entry-posted : (terms : Terms) (before : List Posting) (entry : Entry) → (posting_of terms before entry).entry ≡ entry
entry-posted terms before (Take moment request) = refl
entry-posted terms before (Sweep moment) = refl
entry-posted terms before (ChangeTerms moment change) = refl

-- the terms after one more posting
pub terms_at-push : (terms : Terms) (before : List Posting) (posting : Posting)
    → terms_at terms (before ++ posting ∷ []) ≡ terms_with (terms_at terms before) posting.entry
terms_at-push terms before posting =
    let accounts : accounts_at terms.accounts (before ++ posting ∷ []) ≡ accounts_with (accounts_at terms.accounts before) posting.entry =
    fold-append (λ (known : List Account) (p : Posting). accounts_with known p.entry) terms.accounts before (posting ∷ []) in
    let tariffs : tariffs_at terms.tariffs (before ++ posting ∷ []) ≡ tariffs_with (tariffs_at terms.tariffs before) posting.entry =
    fold-append (λ (known : List Tariff) (p : Posting). tariffs_with known p.entry) terms.tariffs before (posting ∷ []) in
    let closed : closed_at terms.closed (before ++ posting ∷ []) ≡ closed_with (closed_at terms.closed before) posting.entry =
    fold-append (λ (known : List Subscription) (p : Posting). closed_with known p.entry) terms.closed before (posting ∷ []) in
    λ i. record { accounts = accounts i; closed = closed i; tariffs = tariffs i; validity = terms.validity; money = terms.money }

-- the terms after one more entry
pub terms_at-post : (terms : Terms) (before : List Posting) (entry : Entry) → terms_at terms (post terms before entry) ≡ terms_with (terms_at terms before) entry
terms_at-post terms before entry =
    terms_at-push terms before (posting_of (terms_at terms before) before entry)
    ∙ ap (terms_with (terms_at terms before)) (entry-posted (terms_at terms before) before entry)

pub terms_of-push : (terms : Terms) (history : List Entry) (entry : Entry) → terms_of terms (history ++ entry ∷ []) ≡ terms_with (terms_of terms history) entry
terms_of-push terms history entry =
    ap (terms_at terms) (postings_of-push terms history entry) ∙ terms_at-post terms (postings_of terms history) entry

-- a book without entries has the terms that it began with
pub terms_of-empty : (terms : Terms) → terms_of terms [] ≡ terms
unfolding postings_of
terms_of-empty terms = refl

pub terms_of-take : (terms : Terms) (history : List Entry) (moment : Moment) (request : CcRequest)
    → terms_of terms (history ++ Take moment request ∷ []) ≡ terms_of terms history
terms_of-take terms history moment request = terms_of-push terms history (Take moment request)

pub terms_of-sweep : (terms : Terms) (history : List Entry) (moment : Moment) → terms_of terms (history ++ Sweep moment ∷ []) ≡ terms_of terms history
terms_of-sweep terms history moment = terms_of-push terms history (Sweep moment)

pub terms_of-change : (terms : Terms) (history : List Entry) (moment : Moment) (change : TermsChange)
    → terms_of terms (history ++ ChangeTerms moment change ∷ []) ≡ changed_terms (terms_of terms history) change
terms_of-change terms history moment change = terms_of-push terms history (ChangeTerms moment change)

kept_fold : (terms : Terms) (before : List Posting) (history : List Entry) → All KeepsTerms history → terms_at terms before ≡ terms
    → terms_at terms (fold (post terms) before history) ≡ terms
kept_fold terms before [] keeps same = same
kept_fold terms before (entry ∷ history) keeps same =
    kept_fold terms (post terms before entry) history (All-tail KeepsTerms entry history keeps)
    (terms_at-post terms before entry ∙ ap (λ (now : Terms). terms_with now entry) same ∙ by entry (All-head KeepsTerms entry history keeps))
  where
    by : (entry : Entry) → KeepsTerms entry → terms_with terms entry ≡ terms
    by (Take moment request) keeps = refl
    by (Sweep moment) keeps = refl
    by (ChangeTerms moment change) keeps = absurd keeps

-- a history without a change has the terms that the book began with
pub terms_of-kept : (terms : Terms) (history : List Entry) → All KeepsTerms history → terms_of terms history ≡ terms
unfolding postings_of
terms_of-kept terms history keeps = kept_fold terms [] history keeps refl

-- ---- what is true of each posting

fold-length : (terms : Terms) (before : List Posting) (history : List Entry) → length (fold (post terms) before history) ≡ length before + length history
fold-length terms before [] = omega arith
fold-length terms before (entry ∷ history) =
    let more = fold-length terms (post terms before entry) history in
    let long = length-append before (posting_of (terms_at terms before) before entry ∷ []) in
    omega arith

pub postings_of-length : (terms : Terms) (history : List Entry) → length (postings_of terms history) ≡ length history
unfolding postings_of
postings_of-length terms history = let all = fold-length terms [] history in omega arith

pub all_push : (P : Posting → Type 0) (before : List Posting) (posting : Posting) → AllByRecursion P before → P posting → AllByRecursion P (before ++ posting ∷ [])
all_push P [] posting all one = (one, tt)
all_push P (first ∷ before) posting all one = (all.0, all_push P before posting all.1 one)

fold_holds : (P : List Posting → Type 0) (terms : Terms) (before : List Posting) (history : List Entry)
    → ((before : List Posting) (entry : Entry) → P before → P (post terms before entry)) → P before → P (fold (post terms) before history)
fold_holds P terms before [] each all = all
fold_holds P terms before (entry ∷ history) each all = fold_holds P terms (post terms before entry) history each (each before entry all)

-- what is true of postings, and of one more
pub postings_hold : (P : List Posting → Type 0) (terms : Terms) (history : List Entry)
    → ((before : List Posting) (entry : Entry) → P before → P (post terms before entry)) → P [] → P (postings_of terms history)
unfolding postings_of
postings_hold P terms history each none = fold_holds P terms [] history each none

fold_all : (P : Posting → Type 0) (Q : Entry → Type 0) (terms : Terms) (before : List Posting) (history : List Entry)
    → ((before : List Posting) (entry : Entry) → AllByRecursion P before → Q entry → P (posting_of (terms_at terms before) before entry))
    → AllByRecursion P before
    → All Q history → AllByRecursion P (fold (post terms) before history)
fold_all P Q terms before [] each all entries = all
fold_all P Q terms before (entry ∷ history) each all entries =
    fold_all P Q terms (post terms before entry) history each
    (all_push P before (posting_of (terms_at terms before) before entry) all (each before entry all (All-head Q entry history entries))) (All-tail Q entry history entries)

-- what is true of each posting: it follows from the postings before it, and from what is true of each entry
pub postings_all : (P : Posting → Type 0) (Q : Entry → Type 0) (terms : Terms) (history : List Entry)
    → ((before : List Posting) (entry : Entry) → AllByRecursion P before → Q entry → P (posting_of (terms_at terms before) before entry))
    → All Q history
    → AllByRecursion P (postings_of terms history)
unfolding postings_of
postings_all P Q terms history each entries = fold_all P Q terms [] history each tt entries

-- ---- balances, entry by entry

pub debits_to-push : (account : ℕ) (postings : List Posting) (p : Posting)
    → debits_to account (postings ++ p ∷ []) ≡ debits_to account postings +ℤ debit_to account p
debits_to-push account [] p = omega (arith, ints)
debits_to-push account (q ∷ postings) p = let more = debits_to-push account postings p in omega (arith, ints)

-- an entry with which no account joins
pub balance_of-push : (terms : Terms) (history : List Entry) (entry : Entry) (account : ℕ)
    → accounts_with (terms_of terms history).accounts entry ≡ (terms_of terms history).accounts
    → balance_of terms (history ++ entry ∷ []) account
    ≡ balance_of terms history account -ℤ debit_to account (posting_of (terms_of terms history) (postings_of terms history) entry)
unfolding balance_of spent_by
balance_of-push terms history entry account same =
    let posting = posting_of (terms_of terms history) (postings_of terms history) entry in
    let opening : opening_at (terms_of terms (history ++ entry ∷ [])).accounts account ≡ opening_at (terms_of terms history).accounts account =
    ap (λ (now : Terms). opening_at now.accounts account) (terms_of-push terms history entry)
    ∙ ap (λ (accounts : List Account). opening_at accounts account) same in
    let sum : debits_to account (postings_of terms (history ++ entry ∷ [])) ≡ debits_to account (postings_of terms history) +ℤ debit_to account posting =
    ap (debits_to account) (postings_of-push terms history entry) ∙ debits_to-push account (postings_of terms history) posting in
    omega (arith, ints)

-- ---- laws

pub balance_of-take : (terms : Terms) (history : List Entry) (moment : Moment) (request : CcRequest) (account : ℕ)
    → balance_of terms (history ++ Take moment request ∷ []) account
    ≡ balance_of terms history account
    -ℤ cond (is_account account (charged_account (terms_of terms history) (postings_of terms history) request)) (debit_of terms history request) (pos 0)
unfolding debit_of
balance_of-take terms history moment request account = balance_of-push terms history (Take moment request) account refl

pub balance_of-sweep : (terms : Terms) (history : List Entry) (moment : Moment) (account : ℕ)
    → balance_of terms (history ++ Sweep moment ∷ []) account ≡ balance_of terms history account
balance_of-sweep terms history moment account = let next = balance_of-push terms history (Sweep moment) account refl in omega (arith, ints)

-- ---- accounts that join

pub opening_at-front : (accounts joining : List Account) (account : ℕ) → account < length accounts
    → opening_at (accounts ++ joining) account ≡ opening_at accounts account
opening_at-front [] joining account lt = absurd (omega arith)
opening_at-front (first ∷ accounts) joining zero lt = refl
opening_at-front (first ∷ accounts) joining (suc account) lt = opening_at-front accounts joining account (omega arith)

pub opening_at-behind : (accounts joining : List Account) (place : ℕ) → opening_at (accounts ++ joining) (length accounts + place) ≡ opening_at joining place
opening_at-behind [] joining place = let none : 0 + place ≡ place = omega arith in ap (opening_at joining) none
opening_at-behind (first ∷ accounts) joining place =
    let next : suc (length accounts) + place ≡ suc (length accounts + place) = omega arith in
    ap (opening_at (first ∷ (accounts ++ joining))) next ∙ opening_at-behind accounts joining place

-- the balance of an account after a change: no debit is made
pub balance_of-changed : (terms : Terms) (history : List Entry) (moment : Moment) (change : TermsChange) (account : ℕ)
    → balance_of terms (history ++ ChangeTerms moment change ∷ []) account
    ≡ opening_at ((terms_of terms history).accounts ++ change.joining) account -ℤ debits_to account (postings_of terms history)
unfolding balance_of spent_by
balance_of-changed terms history moment change account =
    let entry : Entry = ChangeTerms moment change in
    let opening : opening_at (terms_of terms (history ++ entry ∷ [])).accounts account
    ≡ opening_at ((terms_of terms history).accounts ++ change.joining) account =
    ap (λ (now : Terms). opening_at now.accounts account) (terms_of-push terms history entry) in
    let posting = posting_of (terms_of terms history) (postings_of terms history) entry in
    let sum : debits_to account (postings_of terms (history ++ entry ∷ [])) ≡ debits_to account (postings_of terms history) +ℤ debit_to account posting =
    ap (debits_to account) (postings_of-push terms history entry) ∙ debits_to-push account (postings_of terms history) posting in
    omega (arith, ints)

-- an account that was there keeps its balance
pub balance_of-there : (terms : Terms) (history : List Entry) (moment : Moment) (change : TermsChange) (account : ℕ)
    → account < length (terms_of terms history).accounts
    → balance_of terms (history ++ ChangeTerms moment change ∷ []) account ≡ balance_of terms history account
unfolding balance_of spent_by
balance_of-there terms history moment change account lt =
    let now = balance_of-changed terms history moment change account in
    let front = opening_at-front (terms_of terms history).accounts change.joining account lt in
    omega (arith, ints)
