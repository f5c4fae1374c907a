pub mod Labels
pub mod Rows
pub mod Found
pub mod Context
pub mod Machine
pub mod Checked
pub mod Sound
pub mod Laws
