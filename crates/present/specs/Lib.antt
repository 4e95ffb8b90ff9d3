pub mod Present
pub mod Bytes
pub mod Claims
pub mod Vectors
pub mod Registers
pub mod Calls
pub mod Refusals
