pub mod Samples
pub mod Catalog
pub mod Kinds
pub mod PassSamples
pub mod Agreeing
pub mod Built
pub mod Top
