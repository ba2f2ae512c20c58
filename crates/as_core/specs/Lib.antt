pub mod AsRequests
pub mod AsRules
pub mod Stamps
