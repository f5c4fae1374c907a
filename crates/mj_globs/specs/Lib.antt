pub mod Words
pub mod Changes
pub mod Parts
pub mod Stamps
pub mod Within
