pub mod ForUser
pub mod PacOptions
pub mod UserId
pub mod X509User
pub mod Laws
pub mod Covered
