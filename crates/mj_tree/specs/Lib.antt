pub mod Nest
pub mod Falls
pub mod Maps
pub mod Rows
pub mod Steps
pub mod Changes
pub mod Undo
pub mod Walks
