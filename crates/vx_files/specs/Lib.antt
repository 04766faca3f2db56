pub mod Kept
pub mod Keeping
pub mod FolderKeeping
pub mod Listed
pub mod MemoryViews
