pub mod AuthTimes
pub mod FirstHeader
pub mod HeaderTold
pub mod OfType
pub mod Sizes
