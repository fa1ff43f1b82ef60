-- A client that sends requests in their order and keeps what answers them.
use Rattle.std.specs.Prelude.{◌≡◌, ◌⊎◌, ◌==◌, ◌+◌, ◌-◌, ◌||◌, ◌≤◌, ℕ, Bool, true, false, List, [], ◌∷◌, ◌++◌, Option, Some, None, length, drop, map, min, nat_le, slice_get, if◌then◌else◌, MatchBool, Result, Ok, Err}
use Rattle.dia_base.specs.declared.number.ConnId.{ConnId}
use Rattle.dia_message.specs.Traffic.{Traffic}
use Rattle.dia_message.specs.declared.message.Message.{Message}
use Rattle.farm_node.specs.declared.error.NodeError.{NodeError}
use Rattle.farm_node.specs.declared.error.NodeError.TheVariants.{OutOfMemory}
use Rattle.farm_node.specs.Events.{NodeEvent}
use Rattle.farm_node.specs.Events.{NodeEvent as event}

pub record Client : Type 0 where
  pub requests : List Message
  -- how many of them are sent
  pub sent : ℕ
  -- the octets of those that are unanswered
  pub flight : ℕ
  pub answers : List Message
  -- the node at the other end has said goodbye
  pub has_left : Bool
  pub has_ended : Bool

-- the octets of a message, or the greatest number of 64 bits
abbrev pub length_of : Message → ℕ
length_of message = min (length message.body + 20) 18446744073709551615

-- so many octets more are unanswered
abbrev pub flight_with : ℕ → ℕ → ℕ
flight_with flight octets = min (flight + octets) 18446744073709551615

-- a request of so many octets may go out beside so many that are unanswered
abbrev pub may_send : ℕ → ℕ → Bool
may_send flight octets = (flight == 0) || nat_le (flight_with flight octets) 524288

-- how many of these may go out, one after another, and the octets that are unanswered then
abbrev pub count_of_next : ℕ → List Message → ℕ
count_of_next flight [] = 0
count_of_next flight (request ∷ requests) =
    if may_send flight (length_of request) then 1 + count_of_next (flight_with flight (length_of request)) requests else 0

abbrev pub flight_with_next : ℕ → List Message → ℕ
flight_with_next flight [] = flight
flight_with_next flight (request ∷ requests) =
    if may_send flight (length_of request) then flight_with_next (flight_with flight (length_of request)) requests else flight

-- without the request that the next answer answers
abbrev pub less_by : ℕ → Option Message → ℕ
less_by flight None = flight
less_by flight (Some request) = flight - length_of request

abbrev pub flight_after_answer : Client → ℕ
flight_after_answer client = less_by client.flight (slice_get client.requests (length client.answers))

-- messages, each on this connection
abbrev pub on_conn : ConnId → List Message → Traffic
on_conn conn messages = map (λ message. (conn, message)) messages

-- it sends the next requests, in their order, and nothing else
pub record SendsNext (conn : ConnId) (old : Client) (traffic : Traffic) (new : Client) : Type 0 where
  -- what was to be sent is this, and then what is still to be sent
  pub parts : on_conn conn (drop old.sent old.requests) ≡ traffic ++ on_conn conn (drop new.sent old.requests)
  pub forward : old.sent ≤ new.sent
  pub within : new.sent ≤ length old.requests
  -- as many as may be unanswered, and each counts from then on
  pub count : new.sent ≡ old.sent + count_of_next old.flight (drop old.sent old.requests)
  pub counted : new.flight ≡ flight_with_next old.flight (drop old.sent old.requests)
  pub others : new ≡ record old { sent = new.sent; flight = new.flight }

-- memory ran out: nothing is sent; what was to be sent is given up, and is not sent later
pub record GivesUp (old : Client) (traffic : Traffic) (fault : NodeError) (new : Client) : Type 0 where
  pub why : fault ≡ OutOfMemory
  pub silent : traffic ≡ []
  pub requests : new.requests ≡ old.requests
  pub forward : old.sent ≤ new.sent
  pub left : new.has_left ≡ old.has_left
  pub ended : new.has_ended ≡ old.has_ended

-- it sends the next requests; none where the node at the other end has said goodbye
abbrev pub SendsOn : ConnId → Client → Traffic → Client → Type 0
SendsOn conn old traffic new = MatchBool old.has_left ((new ≡ old) × (traffic ≡ [])) (SendsNext conn old traffic new)

-- it does so, or gives up
abbrev pub GoesOn : ConnId → Client → Traffic → Result (Unit {0}) NodeError → Client → Type 0
GoesOn conn old traffic (Ok done) new = SendsOn conn old traffic new
GoesOn conn old traffic (Err fault) new = GivesUp old traffic fault new × (new.answers ≡ old.answers)

-- a message that is an answer is kept, behind those before; one that is a request changes nothing
abbrev pub OnMessage : Bool → Message → ConnId → Client → Traffic → Result (Unit {0}) NodeError → Client → Type 0
OnMessage true message conn old traffic outcome new = (new ≡ old) × (traffic ≡ []) × (outcome ≡ Ok tt)
OnMessage false message conn old traffic (Ok done) new =
    SendsOn conn (record old { answers = old.answers ++ message ∷ []; flight = flight_after_answer old }) traffic new
OnMessage false message conn old traffic (Err fault) new =
    GivesUp old traffic fault new × ((new.answers ≡ old.answers) ⊎ (new.answers ≡ old.answers ++ message ∷ []))

-- what it does at an event
abbrev pub OnClientEvent : Client → NodeEvent → Traffic → Result (Unit {0}) NodeError → Client → Type 0
OnClientEvent old (event.up local peer conn) traffic outcome new = GoesOn conn old traffic outcome new
OnClientEvent old (event.message conn message) traffic outcome new = OnMessage message.header.request message conn old traffic outcome new
-- It sends no request from then on, and takes answers as before.
OnClientEvent old (event.leaving conn) traffic outcome new = (new ≡ record old { has_left = true }) × (traffic ≡ []) × (outcome ≡ Ok tt)
OnClientEvent old (event.lost conn) traffic outcome new = (new ≡ record old { has_ended = true }) × (traffic ≡ []) × (outcome ≡ Ok tt)
OnClientEvent old (event.tick moment) traffic outcome new = (new ≡ old) × (traffic ≡ []) × (outcome ≡ Ok tt)
OnClientEvent old event.wake traffic outcome new = (new ≡ old) × (traffic ≡ []) × (outcome ≡ Ok tt)
