pub mod Registers
pub mod Keys
pub mod Vectors
