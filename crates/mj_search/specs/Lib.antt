pub mod Goals
pub mod Printed
pub mod Statuses
pub mod Told
