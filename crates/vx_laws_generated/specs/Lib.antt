pub mod GeneratedTable
pub mod GeneratedLine
pub mod GeneratedLaws
pub use Rattle.vx_semantics.specs.Typing
pub use Rattle.vx_semantics.specs.Tables
pub use Rattle.vx_semantics.specs.Honest
pub use Rattle.vx_semantics.specs.Scans
