-- What is answered where a table is to be cut anew.
use Rattle.std.specs.Prelude.{◌≡◌, ℕ, ◌≤◌, ◌<◌, ◌^◌, List, map, Some, None, Result, Ok, Err}
use Rattle.std.specs.List.{sum}
use Rattle.vx_column.specs.Columns.{Column}
use Rattle.vx_semantics.specs.Tables.{Zones}
use Rattle.vx_tables.specs.Blocks.{block_view, table_refusal}
use Rattle.vx_tables.specs.declared.errors.TableError.TheVariants as refusals
use Rattle.vx_cutting.specs.Cutting.{blocks_cut, zones_cut, blocks_anew}
use Rattle.vx_cutting.specs.declared.cutting.CutTable.{CutTable}
use Rattle.vx_cutting.specs.declared.errors.CutError.{CutError}
use Rattle.vx_cutting.specs.declared.errors.CutError.TheVariants.{NoMemory, WrongLength, WrongType, TooMany}

-- the table is the one that is cut into blocks of n rows
pub record IsCut (zones : Zones) (blocks : List (List Column)) (n : ℕ) (cut : CutTable) : Type 0 where
  pub zones_are : cut.zones ≡ zones_cut n zones
  pub blocks_are : map block_view cut.blocks.items ≡ blocks_anew n zones blocks

-- the blocks are a table with these zones, and are cut into fewer than 2 ^ 32; or why they aren't; want of memory may be answered at any time
abbrev pub AnswersCut : Zones → List (List Column) → ℕ → Result CutTable CutError → Type 0
AnswersCut zones blocks n (Ok cut) = IsCut zones blocks n cut × (table_refusal zones blocks ≡ None) × (blocks_cut n (sum zones.lengths) < 2 ^ 32)
AnswersCut zones blocks n (Err NoMemory) = Unit {0}
AnswersCut zones blocks n (Err WrongLength) = table_refusal zones blocks ≡ Some refusals.WrongLength
AnswersCut zones blocks n (Err WrongType) = table_refusal zones blocks ≡ Some refusals.WrongType
AnswersCut zones blocks n (Err TooMany) = (table_refusal zones blocks ≡ None) × (2 ^ 32 ≤ blocks_cut n (sum zones.lengths))
