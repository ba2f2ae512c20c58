pub mod Loops
pub mod LogonLaws
pub mod Readings
pub mod Sizes
pub mod Fitting
