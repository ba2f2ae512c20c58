pub mod KeptDirectories
pub mod LineCounts
pub mod LineRanges
pub mod Outcomes
pub mod Services
pub mod SidRanges
pub mod Words
