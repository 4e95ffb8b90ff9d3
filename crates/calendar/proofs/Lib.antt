pub mod Months
pub mod Years
pub mod Count
pub mod Conversions
pub mod Laws
pub mod LongYear
pub mod Ways
