-- What the clauses of this crate, and of those above it, cite.
pub mod Number
