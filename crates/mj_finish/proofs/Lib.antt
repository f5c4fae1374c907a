mod Joined
mod Latest
mod Waiting
