pub mod Batches
pub mod Blocks
pub mod Callers
pub mod Counts
pub mod Faults
pub mod Held
pub mod Moments
pub mod Reading
