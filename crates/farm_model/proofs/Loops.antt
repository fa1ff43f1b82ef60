-- The clauses on requests in which a relay finds itself, and on those that come back.
pub mod LoopRefused
pub mod Naming
pub mod SendingOn
