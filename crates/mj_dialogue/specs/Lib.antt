pub mod Commands
pub mod Fails
pub mod Lines
pub mod Says
