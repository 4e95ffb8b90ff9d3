pub mod Ctr
pub mod Steps
pub mod Calls
pub mod Laws
