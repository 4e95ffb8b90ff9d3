pub mod Dispatch
pub mod Promise
pub mod Promised
pub mod Field
