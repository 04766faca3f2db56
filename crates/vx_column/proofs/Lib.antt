pub mod FitLemmas
pub mod RowLemmas
mod MadeLemmas
mod FieldLemmas
mod EqualLemmas
pub mod StructLemmas
mod ProjectionLemmas
pub mod TrueCounts
mod CellLemmas
mod AppendLemmas
mod KeptLemmas
mod ColumnFields
mod SameLemmas
pub mod TruthLemmas
pub mod NumberLemmas
mod KeptPlaces
mod MaskedLemmas
mod SameMasked
mod MaskedParts
mod SplitLemmas
mod NullLemmas
mod FillerLemmas
