pub mod ShortLemmas
pub mod NumberLemmas
pub mod FindLemmas
pub mod LimitLemmas
pub mod Examples
