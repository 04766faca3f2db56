-- The columns that a filter asks.
use Rattle.std.specs.Prelude.{◌≡◌, Result, Ok, Err}
use Rattle.vx_dtype.specs.Types.{Bytes, Fields}
use Rattle.vx_expr.specs.Trees.{Tree}
use Rattle.vx_semantics.specs.Asked.{asked_columns}
use Rattle.vx_semantics.specs.Tables.{row_type}
use Rattle.vx_calls.specs.Filters.{OverFilter, IsFilterRefused}
use Rattle.vx_calls.specs.Lists.{names_json}
use Rattle.vx_calls.specs.declared.errors.CallError.{CallError}

-- the text of the columns that a filter asks, in the order of all columns
abbrev pub asked_json : Fields → Tree → Bytes
asked_json columns tree = names_json (asked_columns (row_type columns) tree)

-- what is answered: the text of the columns that the filter asks, or why the bytes are no filter
abbrev pub TellsFilterColumns : Bytes → Bytes → Result Bytes CallError → Type 0
TellsFilterColumns schema filter (Ok bytes) = OverFilter schema filter (λ columns tree. bytes ≡ asked_json columns tree)
TellsFilterColumns schema filter (Err error) = IsFilterRefused schema filter error
