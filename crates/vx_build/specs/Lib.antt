pub mod Collectors
pub mod Samples
