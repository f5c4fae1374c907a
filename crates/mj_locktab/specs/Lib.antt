pub mod Locks
pub mod Changes
pub mod Tries
pub mod Visits
pub mod Trees
pub mod Falls
pub mod Told
pub mod Parts
