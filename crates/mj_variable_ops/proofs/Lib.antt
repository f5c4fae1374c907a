pub mod Accesses
pub mod Altered
pub mod Named
