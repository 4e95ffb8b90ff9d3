pub mod Values
pub mod Exhibits
