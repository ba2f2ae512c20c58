pub mod Ats
pub mod Calendar
pub mod Decimals
pub mod Joined
pub mod SidTexts
pub mod TimeLaw
pub mod Times
pub mod Units
