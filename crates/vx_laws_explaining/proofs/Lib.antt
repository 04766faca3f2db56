pub mod SkippedBlocks
pub mod TypedPlans
pub mod OneExplanation
