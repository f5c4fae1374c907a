pub mod Kept
pub mod Short
pub mod Find
pub mod Fault
pub mod Failing
pub mod Limit
