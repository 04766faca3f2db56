pub mod Texts
pub mod Buffers
pub mod Layouts
pub mod Refusals
pub mod TextsEqual
pub mod Bounds
