pub mod ListedFiles
pub mod OneOrder
pub mod FolderNames
pub mod ListedFolders
pub mod WrittenFiles
