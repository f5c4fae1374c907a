pub mod Typed
pub mod Named
