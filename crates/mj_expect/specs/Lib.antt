pub mod Heeds
