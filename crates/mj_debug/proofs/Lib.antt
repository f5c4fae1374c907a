pub mod Growing
pub mod Showing
pub mod Marking
pub mod Turning
pub mod Stopping
