pub mod FileEndings
pub mod FileAnswers
pub mod FileLaws
pub use Rattle.vx_request.specs.FileRequests
pub use Rattle.vx_file.specs.FileStates
