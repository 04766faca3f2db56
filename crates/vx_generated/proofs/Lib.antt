pub mod NumberLemmas
pub mod ZoneLemmas
pub mod TableLemmas
pub mod ColumnLemmas
pub mod BytesLemmas
pub mod SpelledLemmas
pub mod ScanLemmas
mod SumLemmas
