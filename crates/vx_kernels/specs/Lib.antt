pub mod RawRules
pub mod Totals
pub mod Patterns
pub mod LastPatterns
pub mod Connectives
pub mod Lookups
pub use Rattle.vx_column.specs.Columns
pub use Rattle.vx_column.specs.Answers
