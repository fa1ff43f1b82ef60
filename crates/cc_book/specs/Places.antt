-- Where the requests of a history stand: the first of a session, and the first with a key. It is what the book looks at
-- in place of the history.
use Rattle.std.specs.Prelude.{◌≡◌, ℕ, ◌+◌, ◌≤◌, List, [], ◌∷◌, ◌++◌, length, Bool, ◌&&◌, nat_eq, Option, None, Some}
use Rattle.std.specs.List.{position}
use Rattle.std.specs.Option.{option_and_then}
use Rattle.indexmap.specs.IndexMap.{get, spare}
use Rattle.dia_base.specs.declared.number.Moment.{Moment}
use Rattle.cc_view.specs.declared.request.CcRequest.{CcRequest}
use Rattle.cc_book.specs.declared.entry.Entry.{Entry}
use Rattle.cc_book.specs.declared.entry.Entry.TheVariants.{Take}
use Rattle.cc_book.specs.declared.places.Places.{Places}
use Rattle.cc_book.specs.Duplicate.{Key, key_of, same_session}
use Rattle.cc_book.specs.History.{IsNew, place_of}
use Rattle.cc_book.specs.Session.{is_of}

-- the place of the first request of a session
abbrev pub first_of : List Entry → List ℕ → Option ℕ
first_of history id = position (is_of id) history

-- one number of one session, which is told by the place of its first request
abbrev pub same_numbered : ℕ × ℕ → ℕ × ℕ → Bool
same_numbered one other = nat_eq one.0 other.0 && nat_eq one.1 other.1

-- the places of a history: what is found by a Session-Id and by a key is what the history has
pub record IsIndexed (history : List Entry) (places : Places) : Type 0 where
  pub firsts : (id : List ℕ) → get same_session places.firsts id ≡ first_of history id
  pub numbered : (id : List ℕ) (first number : ℕ) → first_of history id ≡ Some first
      → get same_numbered places.numbered (first, number) ≡ place_of history (record { session = id; number = number })
  -- nothing is known of places that are not taken
  pub untaken : (first number : ℕ) → length history ≤ first → get same_numbered places.numbered (first, number) ≡ None

-- the place of a key, found by the place of the first request of its session
abbrev pub place_in : Places → Key → Option ℕ
place_in places key = option_and_then (λ first. get same_numbered places.numbered (first, key.number)) (get same_session places.firsts key.session)

-- what is found of a key is what every history has that these are the places of
abbrev pub FindsKept : Places → Key → Option ℕ → Type 0
FindsKept places key found = (history : List Entry) → IsIndexed history places → found ≡ place_of history key

-- the places after one more request, which has a key that is new to the history
abbrev pub IndexesNext : Places → Places → ℕ → Key → Type 0
IndexesNext old new place key =
    (history : List Entry) (moment : Moment) (request : CcRequest) → IsIndexed history old → place ≡ length history → key ≡ key_of request → IsNew history key
    → IsIndexed (history ++ Take moment request ∷ []) new

-- there is room for the places of so many requests, of which some are taken
pub record HasPlaces (limit taken : ℕ) (places : Places) : Type 0 where
  pub for_firsts : limit ≤ taken + spare places.firsts
  pub for_numbered : limit ≤ taken + spare places.numbered
