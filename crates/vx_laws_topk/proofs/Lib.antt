pub mod KeyOrder
pub mod Inserting
pub mod Firsts
pub mod Slotless
pub mod SlotlessRules
pub mod Finding
pub mod BoundedFilters
pub mod OneMore
