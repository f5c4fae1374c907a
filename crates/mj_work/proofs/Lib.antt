pub mod Standing
pub mod Telling
pub mod Locking
pub mod Crosses
pub mod Sends
