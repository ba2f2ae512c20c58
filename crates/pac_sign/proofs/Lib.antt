pub mod Covered
pub mod Signatures
pub mod Verifies
