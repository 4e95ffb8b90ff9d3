pub mod Grammar
pub mod Place
pub mod Encoding
pub mod Steps
pub mod Laws
