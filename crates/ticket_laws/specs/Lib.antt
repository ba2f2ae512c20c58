pub mod OnlyPac
pub mod Writable
pub mod Laws
