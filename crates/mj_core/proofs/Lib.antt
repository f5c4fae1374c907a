pub mod Happen
pub mod Weave
pub mod Logs
mod Behind
pub mod Owning
mod Telling
pub mod Placing
mod Stepping
pub mod Owned
mod Serving
mod Hearing
mod Histories
pub mod Views
pub mod Ordered
pub mod Asked
mod Keeping
mod Giving
mod Going
mod Admitting
mod Readying
mod Answering
mod Answered
mod Readied
mod Ended
mod Showing
mod Plain
pub mod Placed
