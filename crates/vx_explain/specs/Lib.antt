pub mod Explanations
pub mod Explaining
pub use Rattle.vx_dtype.specs.Types
pub use Rattle.vx_dtype.specs.Texts
pub use Rattle.vx_expr.specs.Trees
pub use Rattle.vx_expr.specs.CompactTexts
pub use Rattle.vx_semantics.specs.Tables
pub use Rattle.vx_display.specs.Spaced
pub use Rattle.vx_text.specs.Writing
pub use Rattle.vx_zones.specs.ZoneViews
pub use Rattle.vx_passes.specs.PruningTables
pub use Rattle.vx_laws_columns.specs.Columns
pub use Rattle.vx_partition.specs.SplitTexts
pub use Rattle.vx_scan.specs.ErrorKinds
pub use Rattle.vx_scan.specs.Texts as ScanTexts
pub use Rattle.vx_scan.specs.Scanning
