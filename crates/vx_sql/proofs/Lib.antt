pub mod Texts
pub mod WithinLemmas
pub mod SelectLemmas
