pub mod Retraced
pub mod Made
pub mod Instead
pub mod Noted
