pub mod Grants
pub mod Timestamps
pub mod Told
