pub mod Refusals
pub mod Constants
pub mod Expressions
pub mod Clauses
pub mod Statements
pub mod TableNames
pub mod Typing
