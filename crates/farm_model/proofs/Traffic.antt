-- The clause on what is in flight.
pub mod FlightLemmas
pub mod KeepingTraffic
pub mod TrafficAtEnds
pub mod TrafficOfMessages
pub mod TrafficOfSteps
