pub mod RebuildLemmas
mod TypeLemmas
mod PlaceLemmas
mod BoundLemmas
mod WaitLemmas
mod PairLemmas
mod MergeLemmas
mod ChangeLemmas
mod WalkLemmas
