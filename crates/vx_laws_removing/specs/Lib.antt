pub mod LooseTypes
pub mod Simplest
pub mod Walking
pub mod Sizes
