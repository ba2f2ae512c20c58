pub mod Delegations
pub mod Grants
pub mod Lasts
