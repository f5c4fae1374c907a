pub mod Places
pub mod Run
pub mod Limit
pub mod Halted
pub mod Fit
pub mod Told
pub mod Jobs
