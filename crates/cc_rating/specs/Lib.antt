pub mod Laws
pub mod Rating
pub mod TariffExample
pub mod Tariffs
