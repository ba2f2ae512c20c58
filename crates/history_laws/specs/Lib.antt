pub mod Chains
pub mod Entries
pub mod Laws
pub mod Openings
pub mod Places
pub mod Runs
