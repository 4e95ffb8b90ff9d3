pub mod Faults
pub mod Inner
pub mod First
