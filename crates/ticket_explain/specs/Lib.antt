pub mod Words
pub mod Lines
pub mod Holders
pub mod Explained
