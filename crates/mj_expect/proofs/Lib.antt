pub mod Allowing
pub mod Hearing
