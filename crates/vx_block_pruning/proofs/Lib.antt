pub mod AvailableLemmas
pub mod RunLemmas
pub mod ColumnLemmas
pub mod TableLemmas
pub mod RulingLemmas
pub mod RuleLemmas
