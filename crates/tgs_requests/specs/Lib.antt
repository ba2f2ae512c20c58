pub mod Askings
pub mod Headers
pub mod HeaderSteps
pub mod SelfSums
