pub mod Octets
pub mod Waiting
