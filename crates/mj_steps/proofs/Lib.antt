pub mod Lines
pub mod Spelled
pub mod Examples
pub mod Turns
mod Driving
