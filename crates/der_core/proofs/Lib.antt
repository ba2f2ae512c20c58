pub mod Texts
mod Turned
