mod Beginnings
mod Comparing
mod Keeping
