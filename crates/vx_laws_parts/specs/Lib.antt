pub mod Taking
pub mod Recombining
pub mod Preserved
