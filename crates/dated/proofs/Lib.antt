pub mod Read
pub mod Beside
pub mod Open
pub mod Spelled
pub mod Laws
