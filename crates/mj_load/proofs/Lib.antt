pub mod Names
pub mod Units
pub mod Entries
pub mod Examples
pub mod Held
