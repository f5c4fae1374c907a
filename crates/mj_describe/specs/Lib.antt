pub mod Words
pub mod Escaped
pub mod Elsewhere
