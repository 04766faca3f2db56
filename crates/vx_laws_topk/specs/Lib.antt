pub mod TopRows
pub mod TopLaws
pub mod TopPhases
pub mod BoundLaws
