pub mod Pieces
pub mod Functions
pub mod Parts
pub mod Table
