pub mod Lines
pub mod SiteAccounts
pub mod Joining
pub mod SiteChange
