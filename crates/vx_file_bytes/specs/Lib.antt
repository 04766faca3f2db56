pub mod WritingAnswers
pub mod WritingParts
pub use Rattle.vx_laws_file.specs.FileForms
pub use Rattle.vx_laws_file.specs.Lengths
pub use Rattle.vx_tables.specs.Blocks
pub mod HeaderViews
pub mod ReadingAnswers
pub use Rattle.vx_laws_file.specs.HeldTables
