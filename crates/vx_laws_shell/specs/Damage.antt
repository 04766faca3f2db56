-- Which reads of what a block file holds are of damaged columns.
use Rattle.std.specs.Prelude.{ℕ, Bool, true, false, List, Option, Some, None}
use Rattle.std.specs.Bool.{Decides}
use Rattle.std.specs.List.{slice_get}
use Rattle.std.specs.Option.{option_and_then}
use Rattle.vx_dtype.specs.Types.{Bytes, Ty}
use Rattle.vx_dtype.specs.TypeRules.{field_type}
use Rattle.vx_dtype.specs.Values.{Val}
use Rattle.vx_scan.specs.Stores.{Read}
use Rattle.vx_laws_file.specs.FileForms.{FileContent}
use Rattle.vx_laws_file.specs.FileLaws.{AreBytes}
use Rattle.vx_laws_file.specs.HeldTables.{range_values}
use Rattle.vx_laws_file.specs.Opening.{IsOpened}
use Rattle.vx_laws_file.specs.Ranges.{range_named, IsDamaged}

-- whether there are no values
abbrev pub has_no_values : Option (List Val) → Bool
has_no_values None = true
has_no_values (Some values) = false

-- whether a range is no values of a type, so many; where there is no type, no number or no range there is none to be damaged
abbrev pub is_range_damaged : Option Ty → Option ℕ → Option Bytes → Bool
is_range_damaged (Some t) (Some n) (Some range) = has_no_values (range_values t n range)
is_range_damaged _ _ _ = false

-- the range of a read
abbrev pub range_read : FileContent → Read → Option Bytes
range_read content read = option_and_then (range_named read.1 content.zones.columns) (slice_get content.ranges read.0)

-- whether a read is of a damaged column
unfoldable pub is_damaged_in : FileContent → Read → Bool
is_damaged_in content read =
    is_range_damaged (field_type read.1 content.zones.columns) (slice_get content.zones.lengths read.0) (range_read content read)

-- no column of a table in memory is damaged
abbrev pub is_never_damaged : Read → Bool
is_never_damaged read = false

-- so it is decided which columns of a file are damaged. Numbers from 256 on, which are no bytes, could be read in a range that spells no values
abbrev pub DamageIsDecided : Type 0
DamageIsDecided =
    (bytes : Bytes) (content : FileContent) (read : Read) → AreBytes bytes → IsOpened bytes content
    → Decides (is_damaged_in content read) (IsDamaged content read.0 read.1)
