pub mod WordViews
pub use Rattle.vx_laws_shell.specs.Words
pub use Rattle.vx_laws_writing.specs.WriteWords
