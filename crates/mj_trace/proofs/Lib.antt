pub mod Examples
pub mod Listed
