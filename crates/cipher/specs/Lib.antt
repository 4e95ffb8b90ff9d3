pub mod Key
pub mod Promise
pub mod Field
