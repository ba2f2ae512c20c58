pub mod Entries
pub mod JsonTexts
pub mod Objects
