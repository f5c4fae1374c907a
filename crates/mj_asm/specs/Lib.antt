pub mod Correct
pub mod Laws
pub mod Code
pub mod Sites
