mod Names
mod Loading
pub mod Untaken
mod Worded
mod Content
pub mod Starting
mod Devices
mod Principals
