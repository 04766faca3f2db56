pub mod Loosened
pub mod PackedItems
pub mod Removed
pub mod Nodes
pub mod Settled
pub mod Composed
pub mod Walked
mod Counted
mod Slim
mod Leaning
mod Ranging
mod PackFields
mod Summed
mod WalkedSizes
mod SmallTrees
