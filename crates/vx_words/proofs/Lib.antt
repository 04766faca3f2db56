pub mod WordLemmas
pub mod LaneLemmas
pub mod BitLemmas
pub mod TruthLemmas
pub mod ListLemmas
pub mod NextLemmas
pub mod CountLemmas
pub mod KeptLemmas
mod LowestLemmas
pub mod HiddenLemmas
