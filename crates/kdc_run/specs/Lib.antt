pub mod Causes
pub mod Chained
pub mod Requests
pub mod Runs
pub mod Settled
pub mod Talks
pub mod Turns
pub mod Worlds
