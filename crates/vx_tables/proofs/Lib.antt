pub mod MemberLemmas
pub mod NamedLemmas
pub mod BlockLemmas
pub mod FitLemmas
