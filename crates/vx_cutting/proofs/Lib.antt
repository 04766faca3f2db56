pub mod CutLists
pub mod CutLaws
mod JoinLemmas
mod BareLemmas
mod BlockLemmas
pub mod PartLemmas
