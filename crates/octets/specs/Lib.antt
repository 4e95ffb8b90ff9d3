pub mod Bytes
pub mod Block
pub mod Plain
pub mod Outcome
pub mod Clauses
pub mod BlockCalls
