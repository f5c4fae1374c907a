pub mod Rans
pub mod Merged
pub mod Gathered
pub mod Lent
pub mod Found
