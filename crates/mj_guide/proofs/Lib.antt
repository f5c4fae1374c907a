mod Answered
mod Counting
mod Longer
mod Named
mod Showing
mod Splits
mod Turns
