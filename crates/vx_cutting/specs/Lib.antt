pub mod Cutting
pub mod CutAnswers
pub mod CutLaws
pub mod Parting
pub mod PartViews
pub use Rattle.vx_tables.specs.Blocks
