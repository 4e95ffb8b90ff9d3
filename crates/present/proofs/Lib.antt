pub mod Opens
pub mod Loop
pub mod Held
pub mod ByteBlocks
pub mod Vectors
pub mod Refusals
pub mod EightBytes
