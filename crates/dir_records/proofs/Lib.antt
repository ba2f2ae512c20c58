pub mod Apart
pub mod Bounds
pub mod Consistent
pub mod Distinctness
pub mod MemberForms
pub mod Seen
pub mod Tables
