pub mod Numbers
pub mod Zeros
pub mod Entries
pub mod Ones
