pub mod Evidences
pub mod EvidenceSteps
