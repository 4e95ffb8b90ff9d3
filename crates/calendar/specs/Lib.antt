pub mod Calendar
pub mod Answers
pub mod Steps
pub mod Laws
