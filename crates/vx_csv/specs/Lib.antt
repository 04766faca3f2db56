pub mod ByteReading
pub mod Views
pub use Rattle.vx_laws_csv.specs.Cells
pub use Rattle.vx_laws_csv.specs.FoundTypes
pub use Rattle.vx_laws_csv.specs.Refusals
pub use Rattle.vx_laws_csv.specs.Sheets
pub use Rattle.vx_laws_csv.specs.CsvTables
pub use Rattle.vx_laws_csv.specs.GivenColumns
