mod Asking
mod Following
mod Putting
mod Showing
mod Started
mod Tied
mod Walked
