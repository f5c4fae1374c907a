pub mod Examples
pub mod Longer
pub mod Joined
pub mod Lines
pub mod Nodes
mod Global
pub mod InOrder
mod Sizes
pub mod Named
