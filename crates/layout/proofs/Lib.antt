pub mod Header
pub mod Slots
pub mod Marks
pub mod Fits
pub mod Stores
pub mod Meaning
pub mod Places
