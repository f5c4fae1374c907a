pub mod Accesses
pub mod Logged
pub mod Follows
pub mod Sight
pub mod Skips
pub mod Laid
pub mod Walks
pub mod Steps
