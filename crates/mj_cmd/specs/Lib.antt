pub mod Reads
pub mod Readers
pub mod Heads
pub mod Said
pub mod Words
pub mod Parts
pub mod Lists
