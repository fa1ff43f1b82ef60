use Rattle.std.proofs.Common.{◌≡◌, ◌≤◌, ◌+◌, ◌++◌, drop, length}
use Rattle.farm_client.specs.Client.{count_of_next, flight_with_next, on_conn}
use Rattle.farm_client.proofs.sender.Sender.next_requests.Given as goal

abbrev pub invariant-loop-place : goal.invariant-loop-place
invariant-loop-place l =
    (l.self.requests ≡ l.initial.self.requests) × (l.self.answers ≡ l.initial.self.answers) × (l.self.has_left ≡ l.initial.self.has_left) × (l.self.has_ended ≡ l.initial.self.has_ended)
    × (l.self.sent ≡ l.place) × (l.initial.self.sent ≤ l.place) × (l.place ≤ length l.self.requests)
    × (on_conn l.conn (drop l.initial.self.sent l.self.requests) ≡ l.items.items ++ on_conn l.conn (drop l.place l.self.requests))
    × (l.initial.self.sent + count_of_next l.initial.self.flight (drop l.initial.self.sent l.self.requests) ≡ l.place + count_of_next l.self.flight (drop l.place l.self.requests))
    × (flight_with_next l.initial.self.flight (drop l.initial.self.sent l.self.requests) ≡ flight_with_next l.self.flight (drop l.place l.self.requests))
