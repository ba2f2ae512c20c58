pub mod Memory
pub mod Readings
pub mod Shown
pub mod Times
pub mod Accepting
pub mod Replies
pub mod Codes
pub mod Runs
