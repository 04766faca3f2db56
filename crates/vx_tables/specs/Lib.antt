pub mod Blocks
pub use Rattle.vx_column.specs.Columns
pub use Rattle.vx_zones.specs.Zoning
