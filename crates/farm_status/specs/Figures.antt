-- Figures and names of the page and of the text for Prometheus.
use Rattle.std.specs.Prelude.{◌==◌, ◌*◌, ◌/◌, ◌&&◌, ◌||◌, ◌++◌, ◌∷◌, [], ℕ, List, Bool, true, false, not, Option, codes, filter, length, min, nat_le, string_bytes, sum_by, if◌then◌else◌}
use Rattle.std.specs.Fmt.{decimal}
use Rattle.std.specs.List.{concat, find, flat_map}
use Rattle.std.specs.Option.{option_map}
use Rattle.std.specs.Global.{Global}
use Rattle.std.specs.declared.string.String.{String}
use Rattle.farm_metrics.specs.declared.answers.Answers.{Answers}
use Rattle.farm_metrics.specs.declared.answers.CodeCount.{CodeCount}
use Rattle.farm_metrics.specs.declared.times.TimeRow.{TimeRow}
use Rattle.farm_metrics.specs.declared.times.Times.{Times}
use Rattle.farm_status.specs.Escapes.{html_of, label_of}
use Rattle.farm_status.specs.declared.figures.Refusal.{Refusal}
use Rattle.farm_status.specs.declared.figures.Refusal.TheVariants.{Credit, Other}
use Rattle.farm_status.specs.declared.status.Peer.{Peer}
use Rattle.farm_status.specs.declared.status.PeerState.{PeerState}
use Rattle.farm_status.specs.declared.status.PeerState.TheVariants.{Up, Connecting, Down}

-- how many hundredths of the whole a part is, rounded down, and at most all; of nothing none
abbrev pub percent : ℕ → ℕ → ℕ
percent part whole = if nat_le whole part then (if whole == 0 then 0 else 100) else part * 100 / whole

abbrev pub is_up : PeerState → Bool
is_up Up = true
is_up Connecting = false
is_up Down = false

-- how many neighbours are up
abbrev pub peers_up : List Peer → ℕ
peers_up peers = length (filter (λ (peer : Peer). is_up peer.state) peers)

abbrev pub state_word : PeerState → List ℕ
state_word Up = codes "up"
state_word Connecting = codes "connecting"
state_word Down = codes "down"

-- how the state of a neighbour is shown: one that is down, and to which no requests are sent, is away
abbrev pub class_of : Bool → PeerState → List ℕ
class_of takes_requests Up = codes "up"
class_of takes_requests Connecting = codes "connecting"
class_of true Down = codes "down"
class_of false Down = codes "away"

abbrev pub state_class : Peer → List ℕ
state_class peer = class_of peer.takes_requests peer.state

-- credit control refused the service: 4010 to 4012 (RFC 8506, section 9.1)
abbrev pub is_of_credit : ℕ → Bool
is_of_credit code = nat_le 4010 code && nat_le code 4012

-- no success: 3000 and above (RFC 6733, section 7.1), and no code at all
abbrev pub is_refusal : ℕ → Bool
is_refusal code = nat_le 3000 code || (code == 0)

abbrev pub is_refusal_of : Refusal → ℕ → Bool
is_refusal_of Credit code = is_of_credit code
is_refusal_of Other code = not (is_of_credit code) && is_refusal code

abbrev pub refusals_of : Refusal → CodeCount → ℕ
refusals_of kind at = if is_refusal_of kind at.code then at.count else 0

-- the answers that were such refusals; the count stays at the greatest number
abbrev pub refusals : Refusal → Answers → ℕ
refusals kind answers = min (sum_by (refusals_of kind) answers.codes.items) 18446744073709551615

-- the mean of all times; of none nothing
abbrev pub mean : Times → ℕ
mean times = if times.count == 0 then 0 else times.sum / times.count

-- a row has so many thousandths of all times
abbrev pub has_at_least : ℕ → ℕ → TimeRow → Bool
has_at_least thousandths count row = nat_le (count * thousandths) (row.count * 1000)

-- the least bound that so many thousandths of the times are within, if they are within any
abbrev pub within : ℕ → Times → Option ℕ
within thousandths times = option_map (λ (row : TimeRow). row.bound) (find (has_at_least thousandths times.count) times.rows)

-- ---- names

-- a name behind others
abbrev pub names_behind : List (String Global) → List ℕ
names_behind names = flat_map (λ (name : String Global). codes ", " ++ flat_map html_of (string_bytes name)) names

-- names, one behind the other
abbrev pub names_text : List (String Global) → List ℕ
names_text [] = []
names_text (name ∷ names) = flat_map html_of (string_bytes name) ++ names_behind names

-- a sample with one label: `NAME{LABEL="OF"} VALUE`
abbrev pub sample_text : List ℕ → List ℕ → List ℕ → ℕ → List ℕ
sample_text name label of value = concat (
    name ∷ codes "{" ∷ label ∷ codes "=\"" ∷ flat_map label_of of ∷ codes "\"} " ∷ decimal value ∷ codes "\n" ∷ [])
