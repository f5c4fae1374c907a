pub mod Turns
pub mod Going
pub mod Ranges
pub mod Opened
pub mod Sound
pub mod Ends
