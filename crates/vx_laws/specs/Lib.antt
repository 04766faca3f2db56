pub mod Operators
pub mod Values
pub mod Faults
