pub mod Ends
pub mod Fronts
pub mod Named
pub mod Says
