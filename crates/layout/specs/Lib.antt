pub mod Layout
pub mod Shape
pub mod Rules
pub mod Marks
pub mod Places
