pub mod Contexts
pub mod Standing
pub mod Kept
