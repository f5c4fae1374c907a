pub mod Lines
pub mod Told
pub mod Bytes
pub mod Tokens
pub mod Slips
