pub mod Accepts
pub mod Chains
pub mod ReplyForms
pub mod Unshown
pub mod SameEntries
pub mod Steps
pub mod Repeats
pub mod Remembered
