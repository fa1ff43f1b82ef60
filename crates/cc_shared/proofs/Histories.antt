-- What a history says when it goes on.
use Rattle.std.proofs.Common.{◌≡◌, ℕ, zero, suc, ◌+◌, ◌≤◌, ◌||◌, Bool, true, false, List, [], ◌∷◌, ◌++◌, length, Ok, refl, ap, sym, subst, ◌∙◌, arith, append_assoc, cond}
use Rattle.std.proofs.lemmas.List.{append-nil}
use Rattle.std.proofs.lemmas.List.Sums.{count_by-le-length, sum_by-append}
use Rattle.dia_base.specs.declared.number.Moment.{Moment}
use Rattle.cc_view.specs.declared.request.CcRequest.{CcRequest}
use Rattle.cc_book.specs.declared.entry.Entry.{Entry}
use Rattle.cc_book.specs.declared.entry.Entry.TheVariants.{Take, Sweep, ChangeTerms}
use Rattle.cc_book.specs.declared.terms_change.TermsChange.{TermsChange}
use Rattle.cc_book.specs.Changing.{with_change}
use Rattle.cc_book.specs.Taking.{Ledger, after_sweep_with, with_take, with_sweep}
use Rattle.cc_shared.specs.declared.logged.Logged.{Logged}
use Rattle.cc_shared.specs.declared.logged.Logged.TheVariants.{Entered, Closed}
use Rattle.logbook.specs.Pages.{Book as LogName}
use Rattle.cc_shared.specs.History.{SharedLedger, book_at, entries_in, is_closed}
use Rattle.cc_shared.specs.Closing.{IsWhole}
use Rattle.cc_shared.specs.Sharing.{HasGrown, is_take, log_after_sweep, takes_in}

pub entries_in-append : (xs ys : List Logged) → entries_in (xs ++ ys) ≡ entries_in xs ++ entries_in ys
entries_in-append [] ys = refl
entries_in-append (Entered entry ∷ xs) ys = ap (λ (es : List Entry). entry ∷ es) (entries_in-append xs ys)
entries_in-append (Closed ∷ xs) ys = entries_in-append xs ys

pub is_closed-append : (xs ys : List Logged) → is_closed (xs ++ ys) ≡ (is_closed xs || is_closed ys)
is_closed-append [] ys = refl
is_closed-append (Entered entry ∷ xs) ys = is_closed-append xs ys
is_closed-append (Closed ∷ xs) ys = refl

-- a history that is open stays so when an entry comes
pub open_goes_on : (log : List Logged) (entry : Entry) → is_closed log ≡ false → is_closed (log ++ Entered entry ∷ []) ≡ false
open_goes_on log entry is = is_closed-append log (Entered entry ∷ []) ∙ ap (λ (b : Bool). b || false) is

-- and one that is ended is closed
pub ended_is_closed : (log : List Logged) → is_closed (log ++ Closed ∷ []) ≡ true
ended_is_closed [] = refl
ended_is_closed (Entered entry ∷ log) = ended_is_closed log
ended_is_closed (Closed ∷ log) = refl

history_goes_on : (opened : Ledger) (log : List Logged) (entry : Entry) → (opened.history ++ entries_in log) ++ entry ∷ [] ≡ opened.history ++ entries_in (log ++ Entered entry ∷ [])
history_goes_on opened log entry =
    append_assoc opened.history (entries_in log) (entry ∷ []) ∙ ap (λ (es : List Entry). opened.history ++ es) (sym (entries_in-append log (Entered entry ∷ [])))

pub book_at-take : (opened : Ledger) (log : List Logged) (moment : Moment) (request : CcRequest)
    → with_take (book_at opened log) moment request ≡ book_at opened (log ++ Entered (Take moment request) ∷ [])
book_at-take opened log moment request = ap (λ (h : List Entry). record opened { history = h }) (history_goes_on opened log (Take moment request))

pub book_at-sweep : (opened : Ledger) (log : List Logged) (moment : Moment)
    → with_sweep (book_at opened log) moment ≡ book_at opened (log ++ Entered (Sweep moment) ∷ [])
book_at-sweep opened log moment = ap (λ (h : List Entry). record opened { history = h }) (history_goes_on opened log (Sweep moment))

pub book_at-change : (opened : Ledger) (log : List Logged) (moment : Moment) (change : TermsChange)
    → with_change (book_at opened log) moment change ≡ book_at opened (log ++ Entered (ChangeTerms moment change) ∷ [])
book_at-change opened log moment change = ap (λ (h : List Entry). record opened { history = h }) (history_goes_on opened log (ChangeTerms moment change))

-- the closing of a book leaves it as it is
pub book_at-closed : (opened : Ledger) (log : List Logged) → book_at opened (log ++ Closed ∷ []) ≡ book_at opened log
book_at-closed opened log =
    ap (λ (es : List Entry). record opened { history = opened.history ++ es }) (entries_in-append log (Closed ∷ []) ∙ append-nil (entries_in log))

pub is_whole :
    (shared : SharedLedger) (book : Ledger) (of : LogName) (log seen : List Logged) → of ≡ shared.log → seen ≡ log ++ Closed ∷ []
    → book ≡ book_at shared.opened log → IsWhole shared book of seen
is_whole shared book of log seen named ended is =
    let P : List Logged → Type 0 = λ l. IsWhole shared book of l in
    subst P (sym ended) (record { of_it = named; closed = ended_is_closed log; book_is = is ∙ sym (book_at-closed shared.opened log) })

takes_in-append : (xs ys : List Entry) → takes_in (xs ++ ys) ≡ takes_in xs + takes_in ys
takes_in-append xs ys = sum_by-append (λ (e : Entry). cond (is_take e) 1 0) xs ys

pub one_take_more : (log : List Logged) (moment : Moment) (request : CcRequest) → takes_in (entries_in (log ++ Entered (Take moment request) ∷ [])) ≡ takes_in (entries_in log) + 1
one_take_more log moment request = ap takes_in (entries_in-append log (Entered (Take moment request) ∷ [])) ∙ takes_in-append (entries_in log) (Take moment request ∷ [])

pub no_take_more : (log : List Logged) (moment : Moment) → takes_in (entries_in (log ++ Entered (Sweep moment) ∷ [])) ≡ takes_in (entries_in log)
no_take_more log moment =
    let more = ap takes_in (entries_in-append log (Entered (Sweep moment) ∷ [])) ∙ takes_in-append (entries_in log) (Sweep moment ∷ []) in omega (arith, more)

pub change_is_no_take : (log : List Logged) (moment : Moment) (change : TermsChange) → takes_in (entries_in (log ++ Entered (ChangeTerms moment change) ∷ [])) ≡ takes_in (entries_in log)
change_is_no_take log moment change =
    let more = ap takes_in (entries_in-append log (Entered (ChangeTerms moment change) ∷ [])) ∙ takes_in-append (entries_in log) (ChangeTerms moment change ∷ []) in
    omega (arith, more)

-- a book that is the replay of its history has grown by as many takes as stand there
pub replay_has_grown : (opened book : Ledger) (log : List Logged) (takes : ℕ) → book ≡ book_at opened log → takes_in (entries_in log) ≡ takes → HasGrown opened book takes
replay_has_grown opened book log takes is counted = record {
  terms = ap (λ (l : Ledger). l.terms) is;
  limit = ap (λ (l : Ledger). l.limit) is;
  more = entries_in log;
  grown = ap (λ (l : Ledger). l.history) is;
  takes = counted;
}

-- ---- how many takes there may be

entries_are_few : (log : List Logged) → length (entries_in log) ≤ length log
entries_are_few [] = omega arith
entries_are_few (Entered entry ∷ log) = let few = entries_are_few log in omega (arith, few)
entries_are_few (Closed ∷ log) = let few = entries_are_few log in omega (arith, few)

-- no more takes stand in a history than it is long
pub takes_are_few : (log : List Logged) → takes_in (entries_in log) ≤ length log
takes_are_few log =
    let takes = count_by-le-length is_take (entries_in log) in
    let entries = entries_are_few log in
    omega (arith, takes, entries)

-- ---- a sweep that ends sessions

pub swept_book : (ledger : Ledger) (moment : Moment) (n : ℕ) → (n ≡ 0 → ⊥) → after_sweep_with ledger moment (Ok n) ≡ with_sweep ledger moment
swept_book ledger moment zero some = absurd (some refl)
swept_book ledger moment (suc n) some = refl

pub swept_log : (log : List Logged) (moment : Moment) (n : ℕ) → (n ≡ 0 → ⊥) → log ++ Entered (Sweep moment) ∷ [] ≡ log_after_sweep log moment (Ok n)
swept_log log moment zero some = absurd (some refl)
swept_log log moment (suc n) some = refl
