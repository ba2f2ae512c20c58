pub mod Members
pub mod Referents
pub mod Logon
