pub mod FileStates
pub mod FileMoves
pub mod FileCodes
pub use Rattle.vx_file_open.specs.Layouts
pub use Rattle.vx_file_open.specs.OpenAnswers
pub use Rattle.vx_scan.specs.Stores
pub use Rattle.vx_scan.specs.StoreViews
