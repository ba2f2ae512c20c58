pub mod Doors
pub mod FrameBytes
pub mod Histories
pub mod Readings
pub mod Steps
