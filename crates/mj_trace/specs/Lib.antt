pub mod Devices
pub mod Spelling
pub mod Trace
pub mod Reading
pub mod Lines
pub mod Sized
pub mod Refused
pub mod Laws
