pub mod NameLemmas
pub mod FolderLemmas
