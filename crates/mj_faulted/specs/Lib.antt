pub mod Stands
pub mod Walks
pub mod Meanings
pub mod Subjects
pub mod Framed
pub mod Stories
pub mod Sources
pub mod Told
