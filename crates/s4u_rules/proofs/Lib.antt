pub mod Agreement
pub mod Grants
pub mod OneParts
pub mod Stripped
pub mod Tables
