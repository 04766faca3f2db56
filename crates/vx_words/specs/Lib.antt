pub mod Words
pub mod Connectives
pub mod Truths
pub mod TruthsEqual
