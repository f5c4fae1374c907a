pub mod Numbers
pub mod Spots
pub mod Failing
pub mod Giving
pub mod Going
pub mod Showing
