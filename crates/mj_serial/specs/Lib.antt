pub mod Programs
pub mod Blocks
pub mod Alone
pub mod Serial
pub mod Rules
pub mod Shown
pub mod Laws
