pub mod Batches
pub mod ChangeLines
pub mod Fields
pub mod Gives
