pub mod Schedule
pub mod Registers
