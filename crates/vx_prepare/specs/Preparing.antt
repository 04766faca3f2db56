-- An expression that is ready to be evaluated over the columns that it asks.
use Rattle.std.specs.Prelude.{◌≡◌, ℕ, Bool, true, false, List, map, length, Some, Result, Ok, Err}
use Rattle.std.specs.List.{AllZip, list_any}
use Rattle.vx_dtype.specs.Types.{Bytes, Ty, Fields}
use Rattle.vx_dtype.specs.TypeRules.{field_type, no_name_twice}
use Rattle.vx_dtype.specs.TypeViews.{type_view}
use Rattle.vx_dtype.specs.Values.{Val}
use Rattle.vx_dtype.specs.Structs.{field_of}
use Rattle.vx_expr.specs.declared.Operator.{Operator}
use Rattle.vx_expr.specs.Trees.{Tree, binary, cast}
use Rattle.vx_column.specs.Columns.{Column, rows_fit}
use Rattle.vx_column.specs.declared.columns.ColumnRef.{ColumnRef}
use Rattle.vx_semantics.specs.Tables.{row_type}
use Rattle.vx_semantics.specs.Meaning.{Slots, mean}
use Rattle.vx_semantics.specs.Breaks.{Cause, by_sum, by_cast, breaks_by}
use Rattle.vx_semantics.specs.Asked.{asked_nodes, asked_columns, some_asked_breaks}
use Rattle.vx_typing.specs.TypingAnswers.{Refuses}
use Rattle.vx_eval.specs.Evaluating.{checked_type}
use Rattle.vx_typing.specs.declared.errors.TypeError.{TypeError}
use Rattle.vx_eval.specs.declared.errors.EvalError.{EvalError}
use Rattle.vx_eval.specs.declared.errors.EvalError.TheVariants.{NoMemory, Typing, Overflow, BadCast}
use Rattle.vx_passes.specs.Splitting.{Split}
use Rattle.vx_partition.specs.Splits.{split_view, in_columns}
use Rattle.vx_laws_simplifying.specs.Narrowing.{narrows}
use Rattle.vx_laws_columns.specs.Columns.{SplitByColumns}
use Rattle.vx_prepare.specs.declared.prepared.PreparedExpr.{PreparedExpr}

-- the prepared expression: its strict type, the columns that it asks, and its parts, one for each of these columns
pub record IsPrepared (fs : Fields) (slots : Slots) (e : Tree) (p : PreparedExpr) : Type 0 where
  pub typed : checked_type (row_type fs) slots e ≡ Ok (type_view p.dtype)
  pub columns : p.columns ≡ asked_columns (row_type fs) e
  pub simplified : Tree
  pub parts : Split Bytes
  pub splits : SplitByColumns fs e (type_view p.dtype) simplified parts
  pub held : split_view p.split ≡ in_columns (λ c. c) parts

-- the expression is prepared, or the refusal is that of its strict typing and of slots that don't fit
abbrev pub Prepares : Fields → Slots → Tree → Result PreparedExpr TypeError → Type 0
Prepares fs slots e (Ok p) = IsPrepared fs slots e p
Prepares fs slots e (Err r) = Refuses (checked_type (row_type fs) slots e) r

-- a column of so many rows, of the type that its name has among the fields
abbrev pub IsOf : Fields → ℕ → Bytes → Column → Type 0
IsOf fs len name c = (field_type name fs ≡ Some c.ty) × (length c.rows ≡ len)

-- as many columns as names, each one of its name
abbrev pub AreOf : Fields → ℕ → List Bytes → List Column → Type 0
AreOf fs len names columns = AllZip (IsOf fs len) names columns

-- so many rows of the table whose columns under these names these are
pub record HaveColumns (fs : Fields) (len : ℕ) (names : List Bytes) (columns : List Column) (rows : List Val) : Type 0 where
  pub fit : rows_fit (row_type fs) rows ≡ true
  pub long : length rows ≡ len
  pub each : AllZip (λ name. λ (c : Column). c.rows ≡ map (field_of name) rows) names columns

-- columns that a prepared expression is evaluated over: those that an expression which is prepared so asks of a table, in no type of which
-- a name stands twice
pub record CanBeOver (slots : Slots) (p : PreparedExpr) (len : ℕ) (columns : List Column) : Type 0 where
  pub fields : Fields
  pub expression : Tree
  pub prepared : IsPrepared fields slots expression p
  pub distinct : no_name_twice (row_type fields) ≡ true
  pub own : AreOf fields len p.columns columns

-- whether an asked node breaks at one of the rows by this cause
abbrev pub asked_breaks_by : Cause → Ty → Slots → Tree → List Val → Bool
asked_breaks_by cause t slots e rows = list_any (λ row. list_any (breaks_by cause t slots row) (asked_nodes t e)) rows

-- what an expression of this type gives over rows: its meaning at each where no asked node breaks at one, else by which cause one does
abbrev pub EvaluatesAsked : Fields → Slots → Tree → Ty → List Val → Result ColumnRef EvalError → Type 0
EvaluatesAsked fs slots e u rows (Ok c) =
    (narrows c.ty u ≡ true) × (c.rows ≡ map (λ row. mean (row_type fs) slots row e) rows)
    × (list_any (λ row. some_asked_breaks (row_type fs) slots row e) rows ≡ false)
EvaluatesAsked fs slots e u rows (Err Overflow) = asked_breaks_by by_sum (row_type fs) slots e rows ≡ true
EvaluatesAsked fs slots e u rows (Err BadCast) = asked_breaks_by by_cast (row_type fs) slots e rows ≡ true
EvaluatesAsked fs slots e u rows (Err NoMemory) = Unit {0}
EvaluatesAsked fs slots e u rows (Err (Typing r)) = ⊥

-- whether a node is a sum or a difference, and whether it is a cast
abbrev pub is_sum : Tree → Bool
is_sum (binary l Operator.Add r) = true
is_sum (binary l Operator.Sub r) = true
is_sum _ = false

abbrev pub is_cast : Tree → Bool
is_cast (cast e t) = true
is_cast _ = false

-- Overflow comes only where an asked node is a sum or a difference, BadCast only where one is a cast, and no refusal of typing comes
abbrev pub HasCauseIn : List Tree → Result ColumnRef EvalError → Type 0
HasCauseIn asked (Ok c) = Unit {0}
HasCauseIn asked (Err Overflow) = list_any is_sum asked ≡ true
HasCauseIn asked (Err BadCast) = list_any is_cast asked ≡ true
HasCauseIn asked (Err NoMemory) = Unit {0}
HasCauseIn asked (Err (Typing r)) = ⊥
