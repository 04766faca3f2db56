pub mod FirstLemmas
pub mod WalkLemmas
pub mod ColumnLemmas
pub mod TableLemmas
