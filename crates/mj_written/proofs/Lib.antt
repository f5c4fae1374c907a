pub mod Locals
pub mod Names
pub mod States
pub mod Words
pub mod Runs
