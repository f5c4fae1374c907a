mod Counting
mod Faulting
mod Judging
