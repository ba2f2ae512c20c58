pub mod EvidenceFound
pub mod EvidenceTold
pub mod FirstEvidence
