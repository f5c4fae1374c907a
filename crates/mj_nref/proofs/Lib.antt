pub mod Examples
pub mod Joined
pub mod NameTexts
pub mod Lengths
