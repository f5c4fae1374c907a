pub mod Ends
pub mod Goes
pub mod Marks
pub mod Notes
pub mod Requests
pub mod Responds
