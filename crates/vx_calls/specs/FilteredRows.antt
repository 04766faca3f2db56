-- The rows at which a filter is true, over columns that arrays tell.
use Rattle.std.specs.Prelude.{◌≡◌, ◌⊎◌, ℕ, Bool, true, false, List, [], map, None, Result, Ok, Err}
use Rattle.std.specs.List.{range_with_len}
use Rattle.vx_dtype.specs.Logic.{is_true_val}
use Rattle.vx_dtype.specs.StructTypes.{field_types}
use Rattle.vx_dtype.specs.TypeRules.{field_names}
use Rattle.vx_dtype.specs.Types.{Bytes, Fields}
use Rattle.vx_dtype.specs.Values.{Val}
use Rattle.vx_expr.specs.Trees.{Tree}
use Rattle.vx_semantics.specs.Breaks.{Cause, by_sum, by_cast}
use Rattle.vx_semantics.specs.Meaning.{mean}
use Rattle.vx_semantics.specs.Nodes.{some_node_breaks}
use Rattle.vx_semantics.specs.Tables.{row_type}
use Rattle.vx_column.specs.Columns.{Column}
use Rattle.vx_column.specs.StructColumns.{struct_row}
use Rattle.vx_arrays.specs.Arrays.{arrays_told}
use Rattle.vx_arrays.specs.Bitmaps.{bitmap_of}
use Rattle.vx_arrays.specs.declared.errors.ArrayError.{ArrayError}
use Rattle.vx_calls.specs.Filters.{OverFilter, IsFilterRefused}
use Rattle.vx_calls.specs.declared.errors.CallError.{CallError}
use Rattle.vx_calls.specs.declared.errors.CallError.TheVariants as errors

-- what arrays tell as the columns of a schema, over so many rows
abbrev pub row_columns : Fields → ℕ → Bytes → List ℕ → Result (List Column) ArrayError
row_columns columns rows body buffers = arrays_told (field_types columns) rows body buffers

-- so many rows of columns under the names of fields
abbrev pub rows_told : Fields → ℕ → List Column → List Val
rows_told columns rows told = map (struct_row (field_names columns) told None) (range_with_len 0 rows)

-- of each row, whether a filter is true there
abbrev pub true_rows : Fields → Tree → List Val → List Bool
true_rows columns tree rows = map (λ row. is_true_val (mean (row_type columns) [] row tree)) rows

-- whether a node of a filter breaks at one of the rows, by this cause
abbrev pub rows_break : Cause → Fields → Tree → List Val → Bool
rows_break cause columns tree rows = some_node_breaks cause (row_type columns) [] rows tree

-- a bitmap of the rows at which a filter is true, a bit a row; no node breaks at a row
pub record AreFiltered (columns : Fields) (tree : Tree) (rows : ℕ) (body : Bytes) (buffers : List ℕ) (bytes : Bytes) : Type 0 where
  pub told : List Column
  pub arrays : row_columns columns rows body buffers ≡ Ok told
  pub bits : bytes ≡ bitmap_of (true_rows columns tree (rows_told columns rows told))
  pub summed : rows_break by_sum columns tree (rows_told columns rows told) ≡ false
  pub cast : rows_break by_cast columns tree (rows_told columns rows told) ≡ false

-- a node of a filter breaks at one of the rows that arrays tell, by this cause
abbrev pub TellsBreak : Cause → ℕ → Bytes → List ℕ → Fields → Tree → Type 0
TellsBreak cause rows body buffers columns tree =
    (told : List Column) × (row_columns columns rows body buffers ≡ Ok told) × (rows_break cause columns tree (rows_told columns rows told) ≡ true)

-- why no rows are told: the arrays aren't of the columns, or a sum or a cast breaks at a row
abbrev pub AreRowsRefused : ℕ → Bytes → List ℕ → CallError → Fields → Tree → Type 0
AreRowsRefused rows body buffers (errors.Arrays refusal) columns tree = row_columns columns rows body buffers ≡ Err refusal
AreRowsRefused rows body buffers errors.Overflow columns tree = TellsBreak by_sum rows body buffers columns tree
AreRowsRefused rows body buffers errors.BadCast columns tree = TellsBreak by_cast rows body buffers columns tree
AreRowsRefused rows body buffers _ columns tree = ⊥

-- what is answered: the rows at which the filter is true, or why the bytes are no filter, or why no rows are told
abbrev pub TellsRows : Bytes → Bytes → ℕ → Bytes → List ℕ → Result Bytes CallError → Type 0
TellsRows schema filter rows body buffers (Ok bytes) = OverFilter schema filter (λ columns tree. AreFiltered columns tree rows body buffers bytes)
TellsRows schema filter rows body buffers (Err error) =
    IsFilterRefused schema filter error ⊎ OverFilter schema filter (AreRowsRefused rows body buffers error)
