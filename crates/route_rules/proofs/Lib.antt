pub mod FoundOnce
pub mod Joined
pub mod Requestors
pub mod ServiceNames
pub mod Steps
