pub mod Image
pub mod Breaks
