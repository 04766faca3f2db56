pub mod Pruned
pub mod Agreeing
pub mod Exactness
pub mod Quiet
