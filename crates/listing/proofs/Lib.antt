pub mod Decimal
pub mod Appending
pub mod Lines
pub mod Whole
pub mod Lengths
pub mod Example
pub mod Limit
pub mod Printed
