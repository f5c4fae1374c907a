pub mod Commits
pub mod Testing
pub mod Closing
