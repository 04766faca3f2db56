pub mod ElementLemmas
pub mod FindingLemmas
pub mod RelationLemmas
pub mod RequiredLemmas
pub mod StandingLemmas
pub mod StepLemmas
