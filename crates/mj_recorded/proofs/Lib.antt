pub mod Traces
pub mod Agreeing
pub mod Serving
pub mod Histories
pub mod Placing
pub mod Pools
pub mod ReadBack
pub mod Migrated
