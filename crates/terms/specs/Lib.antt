pub mod Terms
pub mod Rules
pub mod Laws
pub mod Inner
