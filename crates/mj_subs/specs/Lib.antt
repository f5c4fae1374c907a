pub mod Name
pub mod Collation
pub mod Tag
pub mod Laws
