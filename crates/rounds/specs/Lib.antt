pub mod Word
pub mod Array
pub mod Lookup
pub mod Vectors
