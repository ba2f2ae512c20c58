pub mod Sids
pub mod Texts
