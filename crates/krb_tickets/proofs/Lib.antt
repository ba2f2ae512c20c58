pub mod Near
pub mod Pacs
pub mod PacSizes
pub mod Realms
pub mod Texts
