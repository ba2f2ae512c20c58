pub mod Changed
pub mod Edits
pub mod Lives
pub mod Indexed
pub mod Lookups
