pub mod Bytes
pub mod Written
pub mod Utf16
pub mod Found
pub mod Read
