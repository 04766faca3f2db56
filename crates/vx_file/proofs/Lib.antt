pub mod FileLemmas
pub mod ReadLemmas
