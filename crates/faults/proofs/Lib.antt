pub mod Places
pub mod Header
pub mod Marks
pub mod Table
pub mod First
pub mod Laws
