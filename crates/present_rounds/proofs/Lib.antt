pub mod Digits
pub mod Layers
pub mod ByTables
