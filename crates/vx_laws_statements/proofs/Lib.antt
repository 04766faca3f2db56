pub mod Steps
pub mod TypedExpressions
pub mod TypedStatements
mod NamedTables
