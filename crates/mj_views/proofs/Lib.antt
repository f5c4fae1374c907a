pub mod Copying
pub mod Finding
