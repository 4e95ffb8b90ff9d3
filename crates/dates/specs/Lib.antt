pub mod DateText
pub mod Laws
