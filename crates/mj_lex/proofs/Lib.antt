pub mod Quotes
pub mod Tokenise
mod Fronts
mod Signs
pub mod Longest
mod Once
