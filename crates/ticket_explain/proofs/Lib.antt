pub mod Lengths
pub mod Pushed
pub mod Sids
pub mod Times
pub mod Told
