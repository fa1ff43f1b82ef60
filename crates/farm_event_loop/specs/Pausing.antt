-- Which connections of a process are read, by what waits to be written on all of them.
use Rattle.std.specs.Prelude.{◌≡◌, ◌≤◌, ◌-◌, ◌⊎◌, ℕ, ⊤, Bool, true, false, is_none, ◌&&◌, length, nat_lt, Option, Some, None, if◌then◌else◌}
use Rattle.dia_base.specs.declared.node.NodeKind.{NodeKind}
use Rattle.dia_base.specs.declared.node.NodeKind.TheVariants.{Relay, Front, Client}
use Rattle.dia_base.specs.declared.number.Moment.{Moment}
use Rattle.farm_connections.specs.declared.link.Link.{Link}
use Rattle.farm_event_loop.specs.declared.pause.Pause.{Pause}
use Rattle.farm_event_loop.specs.declared.pause.Traffic.{Traffic}
use Rattle.farm_event_loop.specs.declared.pause.Traffic.TheVariants.{Requests, Answers, Both}

-- Clients ask, fronts answer, and a relay does both to another one. Who is not up has said nothing, and may be a client.
abbrev pub traffic_on : NodeKind → Option NodeKind → Traffic
traffic_on Client peer = Answers
traffic_on Front peer = Requests
traffic_on Relay None = Requests
traffic_on Relay (Some Client) = Requests
traffic_on Relay (Some Front) = Answers
traffic_on Relay (Some Relay) = Both

-- clients and relays send requests on it
abbrev pub sends_requests : Traffic → Bool
sends_requests Requests = false
sends_requests Answers = true
sends_requests Both = true

-- more octets are unsent than a quarter of what may be
abbrev pub is_behind : ℕ → Bool
is_behind unsent = nat_lt 262144 unsent

-- a connection that has ended makes nobody wait
abbrev pub makes_wait : {R W : Type 0} → Link R W → Bool
makes_wait link = is_none link.end && is_behind (length link.conn.unsent)

-- of so many that are behind, those that are not this one
abbrev pub others_behind : ℕ → ℕ → ℕ
others_behind behind unsent = if is_behind unsent then behind - 1 else behind

-- some have been behind for too long, at every look
abbrev pub IsOver : Pause → Moment → Type 0
IsOver pause moment = pause.patience ≤ moment.0 - pause.since.0

-- A connection is read. Answers are, whatever is behind. Requests are not while their own connection is behind; nor are they,
-- or what a relay brings, while another one is on which requests go out, until that has lasted too long.
abbrev pub MayRead : Traffic → Pause → ℕ → Moment → Type 0
MayRead Answers pause unsent moment = ⊤
MayRead Requests pause unsent moment = (is_behind unsent ≡ false) × ((pause.behind ≡ 0) ⊎ IsOver pause moment)
MayRead Both pause unsent moment = (others_behind pause.behind unsent ≡ 0) ⊎ IsOver pause moment
