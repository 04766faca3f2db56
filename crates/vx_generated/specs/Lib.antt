pub mod GeneratedBlocks
pub mod BlockLaws
pub mod GeneratedViews
pub mod Writable
pub use Rattle.vx_laws_generated.specs.GeneratedTable
pub use Rattle.vx_laws_generated.specs.GeneratedLine
