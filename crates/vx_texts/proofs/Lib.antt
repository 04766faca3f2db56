pub mod BufferLemmas
pub mod PlaceLemmas
pub mod MaskLemmas
pub mod ComparisonLemmas
pub mod NullCounts
pub mod TestBits
pub mod KeptTexts
pub mod RefusedTexts
