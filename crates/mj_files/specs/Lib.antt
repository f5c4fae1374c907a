pub mod Ported
pub mod Named
