pub mod Answer
pub mod Named
