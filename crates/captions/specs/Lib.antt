pub mod Answers
pub mod Captions
pub mod Calls
pub mod Runs
pub mod Model
pub mod Turns
pub mod Claim
pub mod Refusals
