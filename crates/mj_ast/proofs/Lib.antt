pub mod Examples
pub mod Held
pub mod LeftRows
pub mod LeftColons
