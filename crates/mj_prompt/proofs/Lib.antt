mod Givens
mod Resuming
