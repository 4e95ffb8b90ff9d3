pub mod Stream
pub mod Blocks
pub mod Calls
pub mod Laws
