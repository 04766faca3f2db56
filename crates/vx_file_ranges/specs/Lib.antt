pub mod Places
pub use Rattle.vx_io.specs.Counts
pub use Rattle.vx_io.specs.Ends
pub use Rattle.vx_io.specs.Listed
