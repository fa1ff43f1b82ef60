mod Untouched
mod Beside
mod Closing
mod Due
pub mod Fitting
mod Ending
mod Granting
mod Greatest
mod HeldByAll
pub mod Changing
mod Holding
mod Joining
mod Paying
mod Ranges
mod Refusing
mod Reserving
mod SweepLaws
mod Totals
mod Unnamed
pub mod Alive
pub mod Amounts
pub mod Books
pub mod Bounds
pub mod ByKind
pub mod Charging
pub mod Changes
pub mod InOrder
pub mod KeptSessions
pub mod Keys
pub mod Looking
pub mod Outcomes
mod Owners
pub mod Placing
pub mod Pricing
pub mod Postings
pub mod Replies
pub mod SameRequests
pub mod Sessions
pub mod Shuffling
pub mod Stands
pub mod Sums
pub mod Sweeps
pub mod WithoutAt
