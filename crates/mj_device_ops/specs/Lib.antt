pub mod Talked
