pub mod WordLemmas
pub mod TextTables
pub mod WrittenTables
pub mod CutTables
pub mod FolderTables
pub mod FileNames
