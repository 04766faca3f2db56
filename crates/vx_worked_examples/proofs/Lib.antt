pub mod Computing
pub mod Premises
