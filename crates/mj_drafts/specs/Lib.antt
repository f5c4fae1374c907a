pub mod Choices
pub mod Statuses
