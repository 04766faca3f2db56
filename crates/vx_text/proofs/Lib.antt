pub mod ReadingLemmas
pub mod ConstantLemmas
pub mod ChildLemmas
pub mod WritingLemmas
pub mod WritableLemmas
