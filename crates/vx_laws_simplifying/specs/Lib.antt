pub mod Narrowing
pub mod Keeping
pub mod Asking
pub mod PackedRows
pub mod Ranged
pub mod Replaced
