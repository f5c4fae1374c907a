pub mod Sessions
pub mod Beginning
pub mod Renewing
