pub mod RunLemmas
pub mod MarkLemmas
