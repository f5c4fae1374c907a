pub mod Nodes
pub mod Kept
pub mod Questions
pub mod Within
pub mod Changes
pub mod Runs
