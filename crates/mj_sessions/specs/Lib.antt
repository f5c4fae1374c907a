pub mod Events
pub mod Follow
pub mod Named
pub mod Answers
pub mod Asked
