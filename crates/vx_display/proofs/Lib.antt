pub mod RowLemmas
pub mod ValueLemmas
pub mod TreeLemmas
mod PrefixLemmas
