pub mod Dropped
pub mod Walking
pub mod Walked
pub mod Faulting
pub mod Framing
pub mod Pieces
pub mod Telling
