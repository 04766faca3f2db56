pub mod BuiltScans
pub mod ExactSkipping
