pub mod Encodings
pub mod Registries
pub mod Metadata
pub mod Forms
pub mod Building
pub mod ReadBack
pub mod Serializing
pub mod WireOrders
