-- An errand of a sweeper, and what its users know of it.
use Rattle.std.specs.Prelude.{◌≡◌, ℕ, List, [], ◌∷◌, Bool, true, false, not, Option, Some, None, Result, Ok, Err}
use mathlib.Core.Option.{some}
use lib.ListN.{get_elem?}
use Rattle.dia_base.specs.declared.number.Moment.{Moment}
use Rattle.cc_book.specs.declared.book.BookRefusal.{BookRefusal}
use Rattle.cc_book.specs.declared.book.BookRefusal.TheVariants as refused
use Rattle.cc_shared.specs.History.{SharedLedger}
use Rattle.cc_sweeper.specs.declared.errand.SweepDone.{SweepDone}
use Rattle.cc_sweeper.specs.declared.errand.Errand.{Errand}
use Rattle.cc_sweeper.specs.declared.errand.Errand.TheVariants.{Nothing, Asked, Done}
use Rattle.cc_sweeper.specs.declared.errand.User.{User}
use Rattle.cc_sweeper.specs.declared.errand.User.TheVariants.{Asker, Hand}
use Rattle.cc_sweeper.specs.Sweeps.{IsDoneFor}

-- ---- as words

-- which of the five it is, the moment, and a number: of sessions that have ended, or of entries that are the limit
abbrev pub done_words : ℕ → Result ℕ BookRefusal → List ℕ
done_words moment (Ok ended) = 2 ∷ moment ∷ ended ∷ []
done_words moment (Err (refused.Full limit)) = 3 ∷ moment ∷ limit ∷ []
done_words moment (Err refused.OutOfMemory) = 4 ∷ moment ∷ 0 ∷ []

abbrev pub words_of : Errand → List ℕ
words_of Nothing = 0 ∷ 0 ∷ 0 ∷ []
words_of (Asked moment) = 1 ∷ moment.0 ∷ 0 ∷ []
words_of (Done done) = done_words done.moment.0 done.swept

-- ---- what its users know

-- who asks, before it has a sweeper
abbrev pub new_asker : User
new_asker = Asker false None false

-- who asks, and has nothing under way
abbrev pub idle_asker : User
idle_asker = Asker true None false

-- a sweeper with nothing to do
abbrev pub idle_hand : User
idle_hand = Hand None

-- a sweep is asked for, and not done
abbrev pub is_open : Errand → Bool
is_open Nothing = false
is_open (Asked moment) = true
is_open (Done done) = false

-- at which moment the book is to be swept
abbrev pub taken_in : Errand → Option Moment
taken_in Nothing = None
taken_in (Asked moment) = Some moment
taken_in (Done done) = None

-- An errand of who has asked for this: it is not done, or is what the sweep has come to.
abbrev pub IsFor : SharedLedger → Option Moment → Errand → Type 0
IsFor shared asked Nothing = asked ≡ None
IsFor shared asked (Asked moment) = asked ≡ Some moment
IsFor shared asked (Done done) = IsDoneFor shared asked done

-- what the sweeper is to do stands there
abbrev pub IsTaken : Option Moment → Errand → Type 0
IsTaken None errand = Unit {0}
IsTaken (Some moment) errand = errand ≡ Asked moment

-- What a user knows. One is who asks, and one the sweeper, if there is one. Who asks knows what it has asked for, and where it has seen
-- that this is done, it is; what the sweeper is to do stands there until it has done it.
abbrev pub Knows : ℕ → ℕ → Bool → Option Moment → Errand → ℕ → User → Type 0
Knows asker hand hired asked errand user (Asker has_hired waits_for has_seen) =
    (user ≡ asker) × (has_hired ≡ hired) × (waits_for ≡ asked) × (has_seen ≡ true → is_open errand ≡ false)
Knows asker hand hired asked errand user (Hand taken) = (user ≡ hand) × (hired ≡ true) × IsTaken taken errand

-- An errand, and what its users know of it.
pub record Agree (shared : SharedLedger) (errand : Errand) (users : List User) : Type 0 where
  pub asker : ℕ
  pub hand : ℕ
  pub hired : Bool
  pub asked : Option Moment
  pub is_for : IsFor shared asked errand
  pub each : (user : ℕ) (knows : User) → get_elem? users user ≡ some knows → Knows asker hand hired asked errand user knows

-- at which moment a sweep is under way, as who asks knows it
abbrev pub under_way : User → Option Moment
under_way (Asker hired asked seen) = asked
under_way (Hand taken) = None

-- what the sweeper is to do, as it knows it
abbrev pub to_do : User → Option Moment
to_do (Asker hired asked seen) = None
to_do (Hand taken) = taken

-- Who asks, and has a sweeper, has looked: it knows whether what it has asked for is done, and what it has come to.
pub record HasSeen (shared : SharedLedger) (user : User) (errand : Errand) (now : User) : Type 0 where
  pub knows : now ≡ Asker true (under_way user) (not (is_open errand))
  pub is_for : IsFor shared (under_way user) errand

-- Who asks, and has a sweeper: it has asked for this.
pub record IsAsker (user : User) (asked : Option Moment) : Type 0 where
  pub seen : Bool
  pub knows : user ≡ Asker true asked seen
