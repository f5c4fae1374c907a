pub mod Replies
mod Testing
mod Waiting
