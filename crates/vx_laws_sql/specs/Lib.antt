pub mod CommonTypes
pub mod Operands
pub mod Forms
pub mod Membership
pub mod TypeLaws
pub mod Typing
pub mod Meaning
