pub mod Conditions
pub mod Endings
pub mod Judged
pub mod Marks
