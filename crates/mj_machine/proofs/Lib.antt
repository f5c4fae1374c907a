pub mod Operands
pub mod Asks
pub mod Joins
