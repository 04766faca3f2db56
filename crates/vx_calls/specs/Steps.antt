-- For the checker: no public clause cites this. What the steps of the calls answer.
use Rattle.std.specs.Prelude.{◌≡◌, ℕ, Bool, true, false, List, [], Result, Ok, Err}
use Rattle.std.specs.Str.{is_utf8}
use Rattle.std.specs.declared.alloc.Global.{Global}
use Rattle.std.specs.declared.vec.Vec.{Vec}
use Rattle.vx_dtype.specs.declared.Nullability.{Nullability}
use Rattle.vx_dtype.specs.Types.{Bytes, Ty, bool_ty, Fields}
use Rattle.vx_dtype.specs.TypeRules.{no_name_twice}
use Rattle.vx_dtype.specs.Values.{Val}
use Rattle.vx_expr.specs.Trees.{Tree}
use Rattle.vx_semantics.specs.Breaks.{by_sum, by_cast}
use Rattle.vx_semantics.specs.Tables.{Zones, row_type}
use Rattle.vx_column.specs.Columns.{Column}
use Rattle.vx_eval.specs.Evaluating.{checked_type}
use Rattle.vx_wire_bytes.specs.Wires.{Spells}
use Rattle.vx_wire.specs.Forms.{wire_of, Everywhere}
use Rattle.vx_wire.specs.Metadata.{IsSerializable}
use Rattle.vx_laws_statements.specs.Statements.{Plan, plan_of}
use Rattle.vx_passes.specs.Falsifying.{Question}
use Rattle.vx_arrays.specs.Bitmaps.{bitmap_of}
use Rattle.vx_arrays.specs.declared.errors.ArrayError.{ArrayError}
use Rattle.vx_calls.specs.Schemas.{columns_told}
use Rattle.vx_calls.specs.Predicates.{statement_of, IsOverlong}
use Rattle.vx_calls.specs.Filters.{IsFilter, IsFilterRefused}
use Rattle.vx_calls.specs.BlockZones.{IsRuledOut, cells_told}
use Rattle.vx_calls.specs.FilteredRows.{true_rows, rows_break, AreFiltered, AreRowsRefused}
use Rattle.vx_calls.specs.declared.errors.CallError.{CallError}
use Rattle.vx_calls.specs.declared.errors.CallError.TheVariants as errors
use Rattle.vx_calls.specs.declared.filters.TypedFilter.{TypedFilter}
use Rattle.vx_calls.specs.declared.statistics.Needed.{Needed}

-- a schema tells the columns of these zones, or its refusal
abbrev pub TellsSchema : Bytes → Result Zones CallError → Type 0
TellsSchema schema (Ok zones) = columns_told schema ≡ Ok zones.columns
TellsSchema schema (Err errors.NoMemory) = Unit {0}
TellsSchema schema (Err (errors.Schema refusal)) = columns_told schema ≡ Err refusal
TellsSchema schema (Err _) = ⊥

-- a statement is that of a predicate over the columns of a schema
pub record IsStatementOf (schema predicate : Bytes) (columns : Fields) (statement : Bytes) : Type 0 where
  pub told : columns_told schema ≡ Ok columns
  pub text : is_utf8 predicate ≡ true
  pub made : statement ≡ statement_of predicate

-- a plan is that of a predicate over the columns of a schema
pub record IsPlanOf (schema predicate : Bytes) (plan : Plan) : Type 0 where
  pub columns : Fields
  pub told : columns_told schema ≡ Ok columns
  pub distinct : no_name_twice (row_type columns) ≡ true
  pub text : is_utf8 predicate ≡ true
  pub planned : plan_of (row_type columns) (statement_of predicate) ≡ Ok plan

-- the bytes of an expression, or why it has none
abbrev pub TellsBytes : Tree → Result Bytes CallError → Type 0
TellsBytes tree (Ok bytes) = Everywhere IsSerializable tree × Spells bytes (wire_of tree)
TellsBytes tree (Err errors.NoMemory) = Unit {0}
TellsBytes tree (Err errors.NotSerializable) = ¬ (Everywhere IsSerializable tree)
TellsBytes tree (Err errors.TooLong) = IsOverlong tree
TellsBytes tree (Err _) = ⊥

-- an expression is a filter over the columns of a schema, or why the bytes are none
abbrev pub TellsTree : Bytes → Bytes → Fields → Result Tree CallError → Type 0
TellsTree schema filter columns (Ok tree) = IsFilter schema filter columns tree
TellsTree schema filter columns (Err error) = IsFilterRefused schema filter error

-- the same with the zones of the schema, whose columns count
abbrev pub TellsFilter : Bytes → Bytes → Result TypedFilter CallError → Type 0
TellsFilter schema filter (Ok typed) = IsFilter schema filter typed.zones.columns typed.tree
TellsFilter schema filter (Err error) = IsFilterRefused schema filter error

-- columns as arrays tell them, or their refusal
abbrev pub TellsArrays : Result (List Column) ArrayError → Result (Vec Column Global) CallError → Type 0
TellsArrays given (Ok columns) = given ≡ Ok columns.items
TellsArrays given (Err errors.NoMemory) = Unit {0}
TellsArrays given (Err (errors.Arrays refusal)) = given ≡ Err refusal
TellsArrays given (Err _) = ⊥

-- a bitmap of the blocks that a filter rules out, or the refusal of the arrays of the statistics that it needs
abbrev pub TellsBits : Fields → Tree → List ℕ → Bytes → List ℕ → Result Bytes CallError → Type 0
TellsBits columns tree lengths body buffers (Ok bytes) = IsRuledOut columns tree lengths body buffers bytes
TellsBits columns tree lengths body buffers (Err errors.NoMemory) = Unit {0}
TellsBits columns tree lengths body buffers (Err (errors.Arrays refusal)) = cells_told columns tree lengths body buffers ≡ Err refusal
TellsBits columns tree lengths body buffers (Err _) = ⊥

-- an expression over rows of a type is a boolean, and is evaluated without slots
pub record IsChecked (t : Ty) (tree : Tree) : Type 0 where
  pub null : Nullability
  pub checked : checked_type t [] tree ≡ Ok (bool_ty null)

-- the truths of an answer, or its refusal
abbrev pub flags_view : Result (Vec Bool Global) CallError → Result (List Bool) CallError
flags_view (Ok flags) = Ok flags.items
flags_view (Err error) = Err error

-- a bitmap of those of these rows at which a filter is true, where no node breaks; else by which cause one does
abbrev pub TellsTableBits : Fields → Tree → List Val → Result Bytes CallError → Type 0
TellsTableBits columns tree rows (Ok bytes) =
    (bytes ≡ bitmap_of (true_rows columns tree rows)) × (rows_break by_sum columns tree rows ≡ false) × (rows_break by_cast columns tree rows ≡ false)
TellsTableBits columns tree rows (Err errors.NoMemory) = Unit {0}
TellsTableBits columns tree rows (Err errors.Overflow) = rows_break by_sum columns tree rows ≡ true
TellsTableBits columns tree rows (Err errors.BadCast) = rows_break by_cast columns tree rows ≡ true
TellsTableBits columns tree rows (Err _) = ⊥

-- a bitmap of the rows at which a filter is true, or the refusal of the arrays of the columns, or by which cause a node breaks at a row
abbrev pub TellsRowBits : Fields → Tree → ℕ → Bytes → List ℕ → Result Bytes CallError → Type 0
TellsRowBits columns tree rows body buffers (Ok bytes) = AreFiltered columns tree rows body buffers bytes
TellsRowBits columns tree rows body buffers (Err errors.NoMemory) = Unit {0}
TellsRowBits columns tree rows body buffers (Err error) = AreRowsRefused rows body buffers error columns tree

-- at which of these rows a filter is true, where no node breaks; else by which cause one does
abbrev pub TellsTruths : Fields → Tree → List Val → Result (List Bool) CallError → Type 0
TellsTruths columns tree rows (Ok flags) =
    (flags ≡ true_rows columns tree rows) × (rows_break by_sum columns tree rows ≡ false) × (rows_break by_cast columns tree rows ≡ false)
TellsTruths columns tree rows (Err errors.NoMemory) = Unit {0}
TellsTruths columns tree rows (Err errors.Overflow) = rows_break by_sum columns tree rows ≡ true
TellsTruths columns tree rows (Err errors.BadCast) = rows_break by_cast columns tree rows ≡ true
TellsTruths columns tree rows (Err _) = ⊥

-- what a needed statistic is of
abbrev pub needed_view : Needed → Question
needed_view n = (n.path, n.stat)
