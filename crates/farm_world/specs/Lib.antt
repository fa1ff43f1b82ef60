pub mod NodeEvents
pub mod RelayEvents
