pub mod WriteWords
pub mod Writing
pub mod WriteLaws
pub mod FolderLaws
pub mod NameLaws
