pub mod Spelled
pub mod Agree
pub mod Keeps
pub mod Deep
pub mod Probe
pub mod Examples
