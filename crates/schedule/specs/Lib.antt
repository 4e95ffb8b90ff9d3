pub mod Schedule
pub mod Vectors
