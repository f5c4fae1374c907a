pub mod Putting
pub mod Rounds
pub mod Regrouped
