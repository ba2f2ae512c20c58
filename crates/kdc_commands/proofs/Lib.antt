pub mod Listening
pub mod LongTexts
pub mod Printing
pub mod Readable
pub mod Served
pub mod Statuses
