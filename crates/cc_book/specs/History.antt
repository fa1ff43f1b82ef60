-- The history of the book: requests in the one order in which they were charged.
use Rattle.std.specs.Prelude.{◌≡◌, ℕ, ◌-◌, ◌<◌, List, [], ◌∷◌, ◌++◌, length, take, not, slice_get, Option, Some, None, IsTrue}
use Rattle.std.specs.List.{filter_map, position, list_all, IsDistinct}
use Rattle.dia_base.specs.declared.number.Moment.{Moment}
use Rattle.cc_view.specs.declared.request.CcRequest.{CcRequest}
use Rattle.cc_book.specs.declared.entry.Entry.{Entry}
use Rattle.cc_book.specs.declared.entry.Entry.TheVariants.{Take, Sweep, ChangeTerms}
use Rattle.cc_book.specs.declared.terms.Terms.{Terms}
use Rattle.cc_book.specs.declared.terms_change.TermsChange.{TermsChange}
use Rattle.cc_book.specs.AccountMachine.{terms_of}
use Rattle.cc_book.specs.Balance.{open_sessions_of}
use Rattle.cc_book.specs.Duplicate.{Key, key_of, same_key, has_key}
use Rattle.cc_book.specs.TermsChange.{fault_of_change}

abbrev pub entry_key : Entry → Option Key
entry_key (Take moment request) = Some (key_of request)
entry_key (Sweep moment) = None
entry_key (ChangeTerms moment change) = None

-- the keys of the requests that were taken
abbrev pub keys_of : List Entry → List Key
keys_of history = filter_map entry_key history

-- how many of the sessions that are open after a history a sweep at a moment ends
abbrev pub ended_sessions : Terms → List Entry → Moment → ℕ
ended_sessions terms history moment = open_sessions_of terms history - open_sessions_of terms (history ++ Sweep moment ∷ [])

-- no two requests of a legal history have one key, each sweep ends a session, and nothing is wrong with a change of terms
pub record IsLegal (terms : Terms) (history : List Entry) : Type 0 where
  pub distinct : IsDistinct same_key (keys_of history)
  pub sweeps : (before after : List Entry) (moment : Moment) → history ≡ before ++ Sweep moment ∷ after → 0 < ended_sessions terms before moment
  pub changes :
      (before after : List Entry) (moment : Moment) (change : TermsChange) → history ≡ before ++ ChangeTerms moment change ∷ after
      → fault_of_change (terms_of terms before) change ≡ None

-- the place of the first take with a key
abbrev pub place_of : List Entry → Key → Option ℕ
place_of history key = position (has_key key) history

-- no request of the history has the key
abbrev pub IsNew : List Entry → Key → Type 0
IsNew history key = IsTrue (list_all (λ entry. not (has_key key entry)) history)

-- the first request with the key stands at this place
pub record IsKeptAt (history : List Entry) (key : Key) (place : ℕ) (request : CcRequest) : Type 0 where
  pub within : place < length history
  pub new_before : IsNew (take place history) key
  pub moment : Moment
  pub entry : slice_get history place ≡ Some (Take moment request)
  pub same : IsTrue (same_key (key_of request) key)
