pub mod DateText
pub mod Dates
