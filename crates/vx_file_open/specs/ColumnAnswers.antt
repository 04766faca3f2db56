-- What reading a column of a file answers.
use Rattle.std.specs.Prelude.{◌≡◌, ℕ, length, Option, Some, option_map}
use Rattle.std.specs.List.{slice_get}
use Rattle.vx_dtype.specs.Types.{Bytes, Ty}
use Rattle.vx_dtype.specs.TypeRules.{field_type}
use Rattle.vx_column.specs.Columns.{Column, column}
use Rattle.vx_semantics.specs.Tables.{Zones}
use Rattle.vx_laws_file.specs.FileForms.{FileContent}
use Rattle.vx_laws_file.specs.Ranges.{HasRange}
use Rattle.vx_laws_file.specs.HeldTables.{range_values}

-- a column of a block: of the type of the first column of its name, and as long as the block
pub record IsColumnIn (zones : Zones) (block : ℕ) (name : Bytes) (c : Column) : Type 0 where
  pub ty : field_type name zones.columns ≡ Some c.ty
  pub len : slice_get zones.lengths block ≡ Some (length c.rows)

-- what was found is the column that the range of a pair of a block and a name is, or none where it is none
abbrev pub IsRangeRead : FileContent → ℕ → Bytes → Option Column → Type 0
IsRangeRead content block name found =
    (t : Ty) × (n : ℕ) × (range : Bytes) × HasRange content block name t n range × (found ≡ option_map (column t) (range_values t n range))
