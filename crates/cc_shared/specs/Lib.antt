pub mod Changing
pub mod History
pub mod Looking
pub mod Receipts
pub mod Sharing
pub mod Serving
pub mod Closing
