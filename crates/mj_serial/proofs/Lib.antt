pub mod Logs
pub mod Going
pub mod Kept
pub mod Runs
pub mod Clashes
pub mod Shown
mod Tests
mod Tables
pub mod Sights
pub mod Cores
pub mod Wrong
pub mod Examples
