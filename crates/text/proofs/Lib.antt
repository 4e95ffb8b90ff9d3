pub mod Grammar
pub mod Place
pub mod Encoding
pub mod Laws
pub mod Leads
pub mod Ways
pub mod Breaks
