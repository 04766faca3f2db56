pub mod MemoryRuns
pub use Rattle.vx_query.specs.Running
pub use Rattle.vx_calls.specs.Answers
