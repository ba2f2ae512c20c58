pub mod Place
pub mod Layout
pub mod Fields
pub mod Arrays
pub mod Object
pub mod Gives
pub mod Laws
pub mod Forms
