pub mod Rotation
pub mod Xor4
pub mod Blocks
pub mod Inverse
pub mod Steps
pub mod Paths
pub mod Vectors
