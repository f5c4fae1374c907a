pub mod Migrations
pub mod Printed
pub mod Statuses
pub mod Explained
pub mod Instead
