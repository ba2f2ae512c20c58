pub mod Aes
pub mod Cipher
pub mod Field
pub mod Inverses
pub mod KeyExpansion
pub mod RoundKeys
pub mod Schedule
pub mod StateOf
