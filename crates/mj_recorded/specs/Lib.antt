pub mod Laws
pub mod Traces
pub mod Agreeing
