pub mod Examples
mod Hearing
pub mod Places
pub mod Telling
mod Outputs
pub mod There
pub mod Left
