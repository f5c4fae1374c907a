pub mod Talks
mod Places
pub mod Shelves
mod Adding
