pub mod Bare
pub mod Examples
pub mod Fitting
mod First
mod Each
mod Global
mod Opens
mod Serving
mod Placed
mod Passing
mod Places
pub mod Replays
pub mod Rows
mod Together
mod Trying
mod Waiting
