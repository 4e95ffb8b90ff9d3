pub mod Sealing
pub mod Opening
