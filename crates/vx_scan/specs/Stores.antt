-- What is known of a store of columns: the table that it holds, where it tells it, and what a read answers and leaves.
use Rattle.std.specs.Prelude.{◌≡◌, ℕ, ◌≤◌, Bool, true, List, [], ◌∷◌, ◌++◌, map, length, Option, Some, None, option_map, Result, Ok, Err}
use Rattle.std.specs.List.{slice_get, list_all}
use Rattle.vx_dtype.specs.Types.{Bytes}
use Rattle.vx_dtype.specs.TypeRules.{field_type}
use Rattle.vx_dtype.specs.Values.{Val}
use Rattle.vx_dtype.specs.Structs.{field_of}
use Rattle.vx_column.specs.Columns.{Column, rows_fit}
use Rattle.vx_column.specs.declared.columns.ColumnRef.{ColumnRef}
use Rattle.vx_semantics.specs.Tables.{Table, Zones, row_type}
use Rattle.vx_io.specs.Counts.{one_more}
use Rattle.vx_scan.specs.declared.errors.StoreError.{StoreError}
use Rattle.vx_scan.specs.declared.errors.StoreError.TheVariants as errors

-- a read: the number of its block, and the name of its column
abbrev pub Read : Type 0
Read = ℕ × Bytes

-- a store as it is seen: its zones, its table where it tells it, its reads in order, its faults, the last read that failed, and whether it is
-- known to count no fault
pub record StoreSeen : Type 0 where
  pub zones : Zones
  pub held : Option Table
  pub log : List Read
  pub faults : ℕ
  pub failed : Option Read
  pub faultless : Bool

-- what holds of the table of a store, where it is told
abbrev pub WhereTold : Option Table → (Table → Type 0) → Type 0
WhereTold None P = Unit {0}
WhereTold (Some table) P = P table

-- a table's columns are the zones', its blocks have as many rows as the zones say, and each row is one of the row type
pub record AgreesWith (zones : Zones) (table : Table) : Type 0 where
  pub columns : table.columns ≡ zones.columns
  pub lengths : map length table.blocks ≡ zones.lengths
  pub fit : list_all (rows_fit (row_type zones.columns)) table.blocks ≡ true

-- the values are those of a column at the rows of a block
abbrev pub AreHeld : ℕ → Bytes → List Val → Table → Type 0
AreHeld block name rows table = option_map (map (field_of name)) (slice_get table.blocks block) ≡ Some rows

-- no call changes the zones and the table; faults never fall, and stay where the store is known to count none
pub record IsSameStore (before after : StoreSeen) : Type 0 where
  pub zones : after.zones ≡ before.zones
  pub held : after.held ≡ before.held
  pub faultless : after.faultless ≡ before.faultless
  pub later : before.faults ≤ after.faults
  pub quiet : before.faultless ≡ true → after.faults ≡ before.faults

-- a column of a block: of its type and as long as the block, and where the table is told with its values there
pub record IsColumnOf (store : StoreSeen) (block : ℕ) (name : Bytes) (c : Column) : Type 0 where
  pub ty : field_type name store.zones.columns ≡ Some c.ty
  pub len : slice_get store.zones.lengths block ≡ Some (length c.rows)
  pub rows : WhereTold store.held (AreHeld block name c.rows)

-- what a read answers and leaves: the column, and the read is logged; or it failed, a fault was counted, and it is the last that failed; or there was
-- no memory
abbrev pub Reads : StoreSeen → StoreSeen → ℕ → Bytes → Result ColumnRef StoreError → Type 0
Reads before after block name (Ok c) = IsColumnOf before block name c × (after.log ≡ before.log ++ (block, name) ∷ []) × (after.failed ≡ before.failed)
Reads before after block name (Err errors.Failed) =
    (one_more before.faults ≤ after.faults) × (after.log ≡ before.log) × (after.failed ≡ Some (block, name))
Reads before after block name (Err errors.NoMemory) = (after.log ≡ before.log) × (after.failed ≡ before.failed)
