pub mod PlaceLemmas
pub mod TestBits
pub mod ComparisonLemmas
pub mod RangeLemmas
pub mod MaskLemmas
mod KeptNumbers
pub mod BoundLemmas
pub mod NullCounts
