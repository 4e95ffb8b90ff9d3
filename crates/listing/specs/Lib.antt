pub mod Ascii
pub mod Listing
pub mod Appended
pub mod Limit
pub mod Printed
