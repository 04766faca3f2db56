pub mod Lengths
pub mod PlaceLemmas
pub mod LayoutLemmas
pub mod FrontLemmas
pub mod OpenLemmas
pub mod ColumnLemmas
