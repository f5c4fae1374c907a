pub mod Written
pub mod Started
pub mod Formed
pub mod Fits
pub mod Within
pub mod Late
pub mod Keeping
pub mod Fitting
