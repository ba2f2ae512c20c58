pub mod Bits
pub mod Decisions
pub mod Parties
pub mod RuleCodes
pub mod RuleNames
pub mod Wishes
