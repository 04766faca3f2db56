pub mod Bitmaps
pub mod Arrays
pub mod Readings
pub use Rattle.vx_column.specs.Columns
pub use Rattle.vx_column.specs.PlainValues
pub use Rattle.vx_column.specs.StructColumns
pub use Rattle.vx_words.specs.Words
