pub mod ListingWords
pub mod ListingTexts
pub mod Listing
pub mod ListingLaws
pub use Rattle.vx_laws_shell.specs.Running
pub use Rattle.vx_laws_shell.specs.Paths
pub use Rattle.vx_laws_shell.specs.FolderContents
pub use Rattle.vx_folder.specs.FolderTables
