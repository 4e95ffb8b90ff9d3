pub mod Order
pub mod Calls
pub mod Inner
pub mod Example
pub mod Laws
