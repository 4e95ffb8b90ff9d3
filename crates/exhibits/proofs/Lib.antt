pub mod Sealed
pub mod Exhibits
