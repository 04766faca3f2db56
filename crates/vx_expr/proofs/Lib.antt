pub mod TreeLemmas
pub mod ChildrenLemmas
pub mod PostOrderLemmas
mod UnaryLemmas
mod PackedFields
mod TextLemmas
mod CompactLemmas
mod PieceLemmas
