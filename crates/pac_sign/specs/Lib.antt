pub mod Sums
pub mod Signed
pub mod Verified
pub mod Laws
