pub mod Looks
pub mod Events
pub mod Landings
pub mod Clashes
pub mod Losses
pub mod Waiting
pub mod Stories
