pub mod File
pub mod Read
pub mod Words
pub mod Laws
