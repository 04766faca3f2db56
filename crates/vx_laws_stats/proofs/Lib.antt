pub mod Extremes
pub mod LeafFacts
pub mod LeafPaths
pub mod HonestBlocks
pub mod BuiltZones
pub mod PathFacts
