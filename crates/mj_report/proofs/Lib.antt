mod Counting
mod Lines
mod ReadBack
mod Lent
