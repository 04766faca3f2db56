pub mod RowTexts
pub mod ValueTexts
pub mod TreeTexts
pub mod TreeLines
pub mod Spaced
