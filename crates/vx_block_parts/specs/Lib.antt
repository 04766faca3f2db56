pub mod Parts
pub mod PartMoves
pub mod PartLaws
pub use Rattle.vx_scan.specs.Stores
pub use Rattle.vx_scan.specs.Cutting
