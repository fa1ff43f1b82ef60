-- A message is taken out of flight: what that leaves of each direction, and that it is the one at its place.
use Rattle.std.proofs.Common.{◌≡◌, ◌≤◌, ℕ, zero, suc, Bool, true, false, cond, List, [], ◌∷◌, Option, Some, None, inl, inr, refl, sym, subst, ap, ◌∙◌}
use Rattle.std.specs.Prelude.{count_by, filter, filter_map, option_map, slice_get, remove, if◌then◌else◌}
use Rattle.std.specs.List.{cons_option, find}
use Rattle.std.proofs.lemmas.Bool.{both_ways}
use Rattle.dia_base.proofs.Finding.{found_passes}
use Rattle.dia_message.specs.declared.message.Message.{Message}
use Rattle.dia_message.specs.Traffic.{Traffic}
use Rattle.farm_law.specs.Lists.{Has}
use Rattle.farm_model.specs.declared.state.Direction.{Direction}
use Rattle.farm_model.specs.FarmStep.{Flight, flight_of, flight_in, flight_where}
use Rattle.farm_model.specs.InFlight.{message_at}
use Rattle.farm_model.proofs.Wiring.Apart.{one_left, none_passes, the_one}
use Rattle.farm_model.proofs.Lists.Finding.{not_found}
use Rattle.farm_model.proofs.Lists.Replacing.{map_replaced, Has-replacement, Has-beside}
use Rattle.farm_model.proofs.Wiring.Sides.{side_of, sides}

removed_beyond : {A : Type 0} (xs : List A) (k : ℕ) → slice_get xs k ≡ None → remove xs k ≡ xs
removed_beyond [] zero e = refl
removed_beyond [] (suc k) e = refl
removed_beyond (x ∷ xs) zero e = absurd cc
removed_beyond {A} (x ∷ xs) (suc k) e = ap (λ (ys : List A). x ∷ ys) (removed_beyond xs k e)

-- the directions once it is taken, and what is taken
abbrev pub directions_after : List Direction → Option Flight → List Direction
directions_after directions None = directions
directions_after directions (Some flight) = flight.directions

abbrev pub item_of : Option Flight → Traffic
item_of None = []
item_of (Some flight) = (flight.conn, flight.message) ∷ []

-- the direction without the message at this place, where it passes
abbrev pub less : (Direction → Bool) → ℕ → Direction → Direction
less test place direction = record direction { messages = if test direction then remove direction.messages place else direction.messages }

module _ (test : Direction → Bool) (directions : List Direction) (place : ℕ) (most : count_by test directions ≤ 1) where
  less_than : (direction : Direction) (b : Bool) → test direction ≡ b → less test place direction ≡ record direction
      { messages = cond b (remove direction.messages place) direction.messages }
  less_than direction b e = ap (λ (c : Bool). record direction { messages = cond c (remove direction.messages place) direction.messages }) e

  is_first : (first : Direction) → find test directions ≡ Some first → {direction : Direction} → Has direction directions → test direction ≡
      true → direction ≡ first
  is_first first f h e = the_one test first directions most f h e

  left_of : (first : Direction) (got : Option Message) → find test directions ≡ Some first → slice_get first.messages place ≡ got →
      (direction : Direction) (b : Bool) → test direction ≡ b → Has direction directions
      → Has (record direction { messages = cond b (remove direction.messages place) direction.messages })
      (directions_after directions (flight_of test directions place first got))
  left_of first None f g direction false e h = h
  left_of first None f g direction true e h =
      let none : slice_get direction.messages place ≡ None = ap (λ (d : Direction). slice_get d.messages place) (is_first first f h e) ∙ g in
      subst (λ (ms : List Message). Has (record direction { messages = ms }) directions) (sym (removed_beyond direction.messages place none)) h
  left_of first (Some message) f g direction true e h =
      let gone : Direction = record first { messages = remove first.messages place } in
      subst (λ (d : Direction). Has (record d { messages = remove d.messages place })
      (directions_after directions (flight_of test directions place first (Some message)))) (sym (is_first first f h e))
      (Has-replacement test first gone directions f)
  left_of first (Some message) f g direction false e h =
      elim (Has-beside test first (record first { messages = remove first.messages place }) directions f h) [
        | inl is ↦ absurd (both_ways (test direction) e (ap test is ∙ found_passes test directions first f))
        | inr left ↦ left
      ]

  abbrev IsLeft : Option Flight → Type 0
  IsLeft flight = (direction : Direction) → Has direction directions → Has (less test place direction) (directions_after directions flight)

  left_in : (found : Option Direction) → find test directions ≡ found → IsLeft (flight_in test directions place found)
  left_in None f direction h = subst (λ (d : Direction). Has d directions) (sym (less_than direction false (not_found test f h))) h
  left_in (Some first) f direction h =
      subst (λ (d : Direction). Has d (directions_after directions (flight_of test directions place first (slice_get first.messages place))))
      (sym (less_than direction (test direction) refl))
      (left_of first (slice_get first.messages place) f refl direction (test direction) refl h)

  pub flight_leaves : (flight : Option Flight) → flight_where test directions place ≡ flight → (direction : Direction) → Has direction directions → Has
      (less test place direction) (directions_after directions flight)
  flight_leaves flight e = subst IsLeft e (left_in (find test directions) refl)

  taken_sides : (found : Option Direction) → find test directions ≡ found → sides (directions_after directions (flight_in test directions place found)) ≡ sides
      directions
  taken_sides None f = refl
  taken_sides (Some first) f = go (slice_get first.messages place)
    where
      go : (got : Option Message) → sides (directions_after directions (flight_of test directions place first got)) ≡ sides directions
      go None = refl
      go (Some message) = map_replaced side_of test first (record first { messages = remove first.messages place }) directions f refl

  pub flight_sides : (flight : Option Flight) → flight_where test directions place ≡ flight → sides (directions_after directions flight) ≡ sides directions
  flight_sides flight e = subst (λ (o : Option Flight). sides (directions_after directions o) ≡ sides directions) e (taken_sides (find test directions) refl)

  item_in : (found : Option Direction) → find test directions ≡ found → filter_map (message_at place) (filter test directions) ≡ item_of
      (flight_in test directions place found)
  item_in None f = ap (filter_map (message_at place)) (none_passes test directions f)
  item_in (Some first) f = ap (filter_map (message_at place)) (one_left test first directions most f) ∙ go
      (slice_get first.messages place)
    where
      go : (got : Option Message) → cons_option (option_map (λ message. (first.conn, message)) got) [] ≡ item_of (flight_of test directions place first got)
      go None = refl
      go (Some message) = refl

  pub flight_item : (flight : Option Flight) → flight_where test directions place ≡ flight → filter_map (message_at place) (filter test directions) ≡
      item_of flight
  flight_item flight e = item_in (find test directions) refl ∙ ap item_of e
