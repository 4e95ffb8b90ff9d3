pub mod Updates
pub mod Keys
pub mod Steps
