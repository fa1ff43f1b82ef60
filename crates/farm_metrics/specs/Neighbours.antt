-- What is counted of each neighbour.
use Rattle.std.specs.Prelude.{◌≡◌, ◌==◌, ◌&&◌, ◌||◌, ◌++◌, ◌∷◌, ◌⊎◌, [], ℕ, Bool, List, Option, Some, None, set, get_or, nat_le, slice_get, not, if◌then◌else◌}
use Rattle.std.specs.List.{filter, find, position}
use Rattle.std.specs.Option.{option_map}
use Rattle.dia_base.specs.declared.number.ConnId.{ConnId}
use Rattle.dia_base.specs.declared.number.NodeNo.{NodeNo}
use Rattle.farm_metrics.specs.Counting.{plus}
use Rattle.farm_metrics.specs.declared.times.Micros.{Micros}
use Rattle.farm_metrics.specs.declared.peers.PeerCount.{PeerCount}
use Rattle.farm_metrics.specs.declared.peers.Peers.{Peers}
use Rattle.farm_metrics.specs.declared.peers.PeerConn.{PeerConn}

-- a neighbour that was never up
abbrev pub new_count : NodeNo → NodeNo → PeerCount
new_count local peer = record { local = local; peer = peer; losses = 0; silences = 0; requests = 0; answers = 0; refusals = 0; since = record { 0 = 0 } }

-- a Result-Code that is none, or of no success: 3000 and above (RFC 6733, section 7.1)
abbrev pub is_refusal : ℕ → Bool
is_refusal code = nat_le 3000 code || (code == 0)

-- ---- one more

abbrev pub with_up : Micros → PeerCount → PeerCount
with_up now count = record count { since = now }

abbrev pub with_loss : Bool → Micros → PeerCount → PeerCount
with_loss is_silent now count = record count { losses = plus count.losses 1; silences = if is_silent then plus count.silences 1 else count.silences; since = now }

abbrev pub with_request : PeerCount → PeerCount
with_request count = record count { requests = plus count.requests 1 }

abbrev pub with_answer : ℕ → PeerCount → PeerCount
with_answer code count = record count { answers = plus count.answers 1; refusals = if is_refusal code then plus count.refusals 1 else count.refusals }

-- ---- which neighbour

abbrev pub is_of_pair : NodeNo → NodeNo → PeerCount → Bool
is_of_pair local peer count = (count.local.0 == local.0) && (count.peer.0 == peer.0)

abbrev pub place_of : NodeNo → NodeNo → List PeerCount → Option ℕ
place_of local peer counts = position (is_of_pair local peer) counts

abbrev pub count_at : List PeerCount → Option ℕ → Option PeerCount
count_at counts None = None
count_at counts (Some place) = slice_get counts place

abbrev pub count_of : NodeNo → NodeNo → List PeerCount → Option PeerCount
count_of local peer counts = count_at counts (place_of local peer counts)

-- the place of what is counted of who is up on a connection
abbrev pub place_on : Peers → ConnId → Option ℕ
place_on peers conn = option_map (λ (up : PeerConn). up.place) (find (λ (up : PeerConn). up.conn.0 == conn.0) peers.conns.items)

-- what is counted at a place, if any, has changed so
abbrev pub changed : (PeerCount → PeerCount) → Option ℕ → List PeerCount → List PeerCount
changed change None counts = counts
changed change (Some place) counts = set counts place (change (get_or counts place (new_count (record { 0 = 0 }) (record { 0 = 0 }))))

-- A neighbour that was up before is counted where it was; another one behind all, or, without memory, nowhere.
abbrev pub IsCountedUp : NodeNo → NodeNo → Micros → Option ℕ → List PeerCount → List PeerCount → Type 0
IsCountedUp local peer now (Some place) old new = new ≡ changed (with_up now) (Some place) old
IsCountedUp local peer now None old new = (new ≡ old ++ with_up now (new_count local peer) ∷ []) ⊎ (new ≡ old)

-- ---- on which connection

-- A neighbour that is counted at a place is noted behind those that are up, or, without memory, nowhere.
abbrev pub IsNoted : ConnId → Option ℕ → List PeerConn → List PeerConn → Type 0
IsNoted conn (Some place) old new = (new ≡ old ++ (record { conn = conn; place = place }) ∷ []) ⊎ (new ≡ old)
IsNoted conn None old new = new ≡ old

-- those that are up on others
abbrev pub without : ConnId → List PeerConn → List PeerConn
without conn conns = filter (λ (up : PeerConn). not (up.conn.0 == conn.0)) conns
