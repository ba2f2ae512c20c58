pub mod Readings
pub mod Loops
