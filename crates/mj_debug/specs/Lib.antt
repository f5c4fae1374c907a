pub mod Breaks
pub mod Walks
pub mod Goes
