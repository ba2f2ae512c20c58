pub mod Requests
pub mod Writable
pub mod Finishing
pub mod Reads
