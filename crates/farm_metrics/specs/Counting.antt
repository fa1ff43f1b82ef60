-- Counts: how they rise.
use Rattle.std.specs.Prelude.{◌≡◌, ◌==◌, ◌+◌, ◌-◌, ◌∷◌, ◌++◌, ◌⊎◌, ◌*◌, ◌%◌, ◌^◌, ◌<◌, [], ℕ, Bool, List, Option, Some, None, map, min, sum_by, set, get_or, length, nat_le, replicate, if◌then◌else◌}
use Rattle.std.specs.List.{position}
use Rattle.dia_base.specs.declared.number.ConnId.{ConnId}
use Rattle.farm_metrics.specs.declared.times.Micros.{Micros}
use Rattle.farm_metrics.specs.declared.times.TimeRow.{TimeRow}
use Rattle.farm_metrics.specs.declared.times.Times.{Times}
use Rattle.farm_metrics.specs.declared.answers.Answers.{Answers}
use Rattle.farm_metrics.specs.declared.answers.CodeCount.{CodeCount}
use Rattle.farm_metrics.specs.declared.clocks.Clocked.{Clocked}
use Rattle.farm_metrics.specs.declared.clocks.Clocks.{Clocks}
use Rattle.farm_metrics.specs.declared.tally.Tally.{Tally}

-- the greatest count
abbrev pub most : ℕ
most = 18446744073709551615

-- the sum of two counts; it stays at the greatest number
abbrev pub plus : ℕ → ℕ → ℕ
plus a b = min (a + b) most

-- ---- times, in microseconds

-- a time is counted where it is no longer than the bound
abbrev pub row_after : ℕ → TimeRow → TimeRow
row_after micros row = record { bound = row.bound; count = if nat_le micros row.bound then plus row.count 1 else row.count }

abbrev pub rows_after : ℕ → List TimeRow → List TimeRow
rows_after micros rows = map (row_after micros) rows

abbrev pub times_after : ℕ → Times → Times
times_after micros times = record { rows = rows_after micros times.rows; count = plus times.count 1; sum = plus times.sum micros }

abbrev pub new_row : ℕ → TimeRow
new_row bound = record { bound = bound; count = 0 }

abbrev pub new_rows : List TimeRow
new_rows = map new_row (50 ∷ 100 ∷ 250 ∷ 500 ∷ 1000 ∷ 2500 ∷ 5000 ∷ 10000 ∷ 25000 ∷ 50000 ∷ 100000 ∷ 250000 ∷ 500000 ∷ 1000000 ∷ 2500000 ∷ 5000000 ∷ [])

-- ---- answers by Result-Code

abbrev pub has_code : ℕ → CodeCount → Bool
has_code code at = at.code == code

abbrev pub place_of : ℕ → List CodeCount → Option ℕ
place_of code codes = position (has_code code) codes

-- one more
abbrev pub one_more : CodeCount → CodeCount
one_more at = record { code = at.code; count = plus at.count 1 }

-- all answers
abbrev pub total_of : Answers → ℕ
total_of answers = answers.others + sum_by (λ (at : CodeCount). at.count) answers.codes.items

-- it counts at its code, where that is there; else as the first of its code, of which 64 are told apart, or among the others
abbrev pub CountsBy : Option ℕ → ℕ → Answers → Answers → Type 0
CountsBy (Some place) code old new =
    (new.others ≡ old.others)
    × (new.codes.items ≡ set old.codes.items place (one_more (get_or old.codes.items place (record { code = 0; count = 0 }))))
CountsBy None code old new =
    ((length old.codes.items < 64) × (new.others ≡ old.others) × (new.codes.items ≡ old.codes.items ++ (record { code = code; count = 1 }) ∷ []))
    ⊎ ((new.others ≡ plus old.others 1) × (new.codes.items ≡ old.codes.items))

abbrev pub IsCounted : ℕ → Answers → Answers → Type 0
IsCounted code old new = CountsBy (place_of code old.codes.items) code old new

-- ---- requests that wait for their answers

-- the number of the place of a request, of so many
abbrev pub place_for : ConnId → ℕ → ℕ → ℕ
place_for conn hop count = ((conn.0 * 1021 % 2 ^ 64 + hop) % 2 ^ 64) % count

abbrev pub place_of_request : Clocks → ConnId → ℕ → ℕ
place_of_request clocks conn hop = place_for conn hop (length clocks.places.items)

-- what stands at the place of a request
abbrev pub clocked_at : Clocks → ConnId → ℕ → Option Clocked
clocked_at clocks conn hop = get_or clocks.places.items (place_of_request clocks conn hop) None

-- from now on a request is timed, in place of what stood at its place; without places nothing is
abbrev pub IsBegun : Clocks → ConnId → ℕ → Micros → Clocks → Type 0
IsBegun old conn hop since new =
    new.places.items ≡ set old.places.items (place_of_request old conn hop) (Some (record { conn = conn; hop = hop; since = since }))

-- this request stands at its place, since the clock said this
abbrev pub IsTimedSince : Clocks → ConnId → ℕ → Micros → Type 0
IsTimedSince clocks conn hop since = clocked_at clocks conn hop ≡ Some (record { conn = conn; hop = hop; since = since })

-- it stands at its place, and so many microseconds have passed since it came
abbrev pub IsClocked : Clocks → ConnId → ℕ → Micros → ℕ → Type 0
IsClocked clocks conn hop now micros = (since : Micros) × IsTimedSince clocks conn hop since × (micros ≡ now.0 - since.0)

-- nothing stands at its place, or another request
abbrev pub IsUntimed : Clocks → ConnId → ℕ → Type 0
IsUntimed clocks conn hop = (since : Micros) → ¬ IsTimedSince clocks conn hop since

-- its place is free from now on, and each other place is as it was
abbrev pub IsEnded : Clocks → ConnId → ℕ → Clocks → Type 0
IsEnded old conn hop new = new.places.items ≡ set old.places.items (place_of_request old conn hop) None

-- all places are free
abbrev pub HasNoClocks : Clocks → Type 0
HasNoClocks clocks = (count : ℕ) × (clocks.places.items ≡ replicate count None)

-- ---- all counts of a node

abbrev pub HasNoAnswers : Answers → Type 0
HasNoAnswers answers = (answers.codes.items ≡ []) × (answers.others ≡ 0)

-- nothing is counted yet
pub record IsNothing (tally : Tally) : Type 0 where
  pub requests : tally.requests ≡ 0
  pub sent : tally.sent ≡ 0
  pub answers : HasNoAnswers tally.answers
  pub failovers : tally.failovers ≡ 0
  pub given_up : tally.given_up ≡ 0
  pub refused : tally.refused ≡ 0
  pub dial_failures : tally.dial_failures ≡ 0
  pub times : tally.times ≡ record { rows = new_rows; count = 0; sum = 0 }
  pub clocks : HasNoClocks tally.clocks
  pub peers : tally.peers.counts.items ≡ []
  pub conns : tally.peers.conns.items ≡ []

-- where its request was timed, the time of an answer is counted and its clock ends; where it was not, nothing changes
abbrev pub IsTimed : Tally → ConnId → ℕ → Tally → Type 0
IsTimed old conn hop new =
    ((micros : ℕ) × IsClocked old.clocks conn hop old.clock micros × IsEnded old.clocks conn hop new.clocks × (new.times ≡ times_after micros old.times))
    ⊎ (IsUntimed old.clocks conn hop × (new.clocks ≡ old.clocks) × (new.times ≡ old.times))
