-- The clause on relays: each does what a relay does, one event after another.
pub mod EndsInTurn
pub mod EventsAtEnds
pub mod RelayTurns
pub mod RelaysRun
pub mod SentBehind
