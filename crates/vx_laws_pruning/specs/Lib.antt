pub mod PruningLaws
pub mod KnownBounds
pub mod PruningTypes
