pub mod Terms
pub mod Meaning
pub mod Plain
pub mod Store
pub mod Only
pub mod Laws
pub mod Places
