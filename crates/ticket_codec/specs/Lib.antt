pub mod Holdings
pub mod Roles
pub mod Denied
pub mod Opening
pub mod Presented
pub mod Rules
pub mod Made
pub mod Laws
