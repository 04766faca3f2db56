pub mod Building
pub mod Walks
pub mod ColumnFacts
pub use Rattle.vx_tables.specs.Blocks
pub use Rattle.vx_laws_stats.specs.BuiltStatistics
