pub mod WriteRefusals
pub mod Making
pub mod WriteSteps
pub use Rattle.vx_laws_writing.specs.Writing
pub use Rattle.vx_laws_writing.specs.WriteWords
pub use Rattle.vx_laws_shell.specs.Running
