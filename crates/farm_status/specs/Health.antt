-- Whether a node can do its work.
use Rattle.std.specs.Prelude.{ℕ, List, Bool, Option, Some, None, codes, nat_lt, ◌&&◌, if◌then◌else◌}
use Rattle.std.specs.List.{list_any}
use Rattle.farm_status.specs.declared.health.Health.{Health}
use Rattle.farm_status.specs.declared.health.Health.TheVariants.{Well, NoServer, BookClosed, BookFull}
use Rattle.farm_status.specs.declared.status.BookStatus.{BookStatus}
use Rattle.farm_status.specs.declared.status.Peer.{Peer}
use Rattle.farm_status.specs.declared.status.Work.{Work}
use Rattle.farm_status.specs.declared.status.Work.TheVariants.{Relay, Fronts}
use Rattle.farm_status.specs.Figures.{is_up}

-- requests can be sent to it: it is up, and a route of the relay names it
abbrev pub serves : Peer → Bool
serves peer = peer.takes_requests && is_up peer.state

-- new requests can be charged on it
abbrev pub health_of_book : Option BookStatus → Health
health_of_book None = BookClosed
health_of_book (Some book) = if nat_lt book.entries book.limit then Well else BookFull

-- A relay can forward where one of the neighbours is up that its routes name. Fronts can charge while their book is open and has room.
abbrev pub health_of : List Peer → Work → Health
health_of peers (Relay pending limit mismatched) = if list_any serves peers then Well else NoServer
health_of peers (Fronts fronts book) = health_of_book book

-- 200, or 503, Service Unavailable (RFC 9110, section 15.6.4)
abbrev pub status_of_health : Health → ℕ
status_of_health Well = 200
status_of_health NoServer = 503
status_of_health BookClosed = 503
status_of_health BookFull = 503

-- what cannot be done with a request where the node cannot do its work
abbrev pub what_cannot_be : Work → List ℕ
what_cannot_be (Relay pending limit mismatched) = codes "forwarded"
what_cannot_be (Fronts fronts book) = codes "charged"
