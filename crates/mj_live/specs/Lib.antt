pub mod Events
pub mod Shows
pub mod Live
