pub mod Walk
pub mod Leads
pub mod Calls
pub mod Laws
