mod Heads
mod Typing
