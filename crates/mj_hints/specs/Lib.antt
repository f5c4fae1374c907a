pub mod Refusals
pub mod Near
pub mod Hints
pub mod Phrases
pub mod Shown
