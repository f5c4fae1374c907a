pub mod Parts
pub mod Fields
pub mod Words
pub mod Reasons
pub mod Systems
