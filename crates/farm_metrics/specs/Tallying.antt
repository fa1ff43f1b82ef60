-- What a node counts at each thing that happens to it, as one fact.
use Rattle.std.specs.Prelude.{◌≡◌, ℕ, Bool}
use Rattle.dia_base.specs.declared.number.ConnId.{ConnId}
use Rattle.dia_base.specs.declared.number.NodeNo.{NodeNo}
use Rattle.farm_metrics.specs.Counting.{IsBegun, IsCounted, IsTimed, IsUntimed, plus}
use Rattle.farm_metrics.specs.Neighbours.{IsCountedUp, IsNoted, changed, place_of, place_on, with_answer, with_loss, with_request, without}
use Rattle.farm_metrics.specs.declared.tally.Tally.{Tally}
use Rattle.farm_metrics.specs.declared.times.Micros.{Micros}

-- ---- one more of a kind

-- the clock says this
abbrev pub at_clock : Micros → Tally → Tally
at_clock now tally = record tally { clock = now }

-- a request that was sent
abbrev pub with_sent : Tally → Tally
with_sent tally = record tally { sent = plus tally.sent 1 }

-- a request that was sent again
abbrev pub with_failover : Tally → Tally
with_failover tally = record tally { failovers = plus tally.failovers 1 }

-- a request that was given up
abbrev pub with_given_up : Tally → Tally
with_given_up tally = record tally { given_up = plus tally.given_up 1 }

-- a connection that was refused
abbrev pub with_refused : Tally → Tally
with_refused tally = record tally { refused = plus tally.refused 1 }

-- a connection of its own that was not made
abbrev pub with_dial_failure : Tally → Tally
with_dial_failure tally = record tally { dial_failures = plus tally.dial_failures 1 }

-- ---- what happens to a connection

-- A neighbour of a node here is up on a connection: it is counted and noted, and nothing else is.
pub record ComesUp (conn : ConnId) (local peer : NodeNo) (old new : Tally) : Type 0 where
  pub counted : IsCountedUp local peer old.clock (place_of local peer old.peers.counts.items) old.peers.counts.items new.peers.counts.items
  pub conns : IsNoted conn (place_of local peer new.peers.counts.items) old.peers.conns.items new.peers.conns.items
  pub others : new ≡ record old { peers = new.peers }

-- The neighbour that was up on a connection is lost, since it was silent or not: that is counted of it, and nothing else is.
pub record IsLost (conn : ConnId) (is_silent : Bool) (old new : Tally) : Type 0 where
  pub counted : new.peers.counts.items ≡ changed (with_loss is_silent old.clock) (place_on old.peers conn) old.peers.counts.items
  pub conns : new.peers.conns.items ≡ without conn old.peers.conns.items
  pub others : new ≡ record old { peers = new.peers }

-- A request came on a connection, under this Hop-by-Hop Identifier: it is counted, also of its neighbour, and timed from now on.
pub record Came (conn : ConnId) (hop : ℕ) (old new : Tally) : Type 0 where
  pub counted : new ≡ record old { requests = plus old.requests 1; clocks = new.clocks; peers = new.peers }
  pub by_peer : new.peers.counts.items ≡ changed with_request (place_on old.peers conn) old.peers.counts.items
  pub conns : new.peers.conns ≡ old.peers.conns
  pub timed : IsBegun old.clocks conn hop old.clock new.clocks

-- An answer is sent on a connection, under this Hop-by-Hop Identifier and with this Result-Code: it is counted, also of its neighbour,
-- and timed once, if its request was.
pub record AnswerSent (conn : ConnId) (hop code : ℕ) (old new : Tally) : Type 0 where
  pub counted : IsCounted code old.answers new.answers
  pub timed : IsTimed old conn hop new
  pub once : IsUntimed new.clocks conn hop
  pub others : new ≡ record old { answers = new.answers; times = new.times; clocks = new.clocks; peers = new.peers }
  pub by_peer : new.peers.counts.items ≡ changed (with_answer code) (place_on old.peers conn) old.peers.counts.items
  pub conns : new.peers.conns ≡ old.peers.conns
