pub mod Delegations
pub mod EvidenceViews
pub mod ProxyRules
