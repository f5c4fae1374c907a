pub mod Machine
pub mod Reads
pub mod Readers
pub mod Lists
pub mod Phrases
pub mod Shapes
