pub mod Aims
pub mod Cross
pub mod Meanings
pub mod Requestor
