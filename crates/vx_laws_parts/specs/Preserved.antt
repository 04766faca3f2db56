-- What an expression over a table's rows is, once packs of the columns stand for the row and it is simplified by types.
use Rattle.std.specs.Prelude.{◌≡◌, Bool, true, false, ◌&&◌, ◌||◌, [], Ok}
use Rattle.std.specs.Str.{bytes_eq}
use Rattle.vx_dtype.specs.Types.{Bytes, Ty, Fields}
use Rattle.vx_dtype.specs.Values.{Val}
use Rattle.vx_dtype.specs.Fits.{fits_but_for_faults}
use Rattle.vx_expr.specs.Children.{is_root_tree}
use Rattle.vx_expr.specs.Trees.{Tree, root, literal, get_item, binary, not_of, is_null_of, like, between, cast, list_contains, pack, merge, select, dynamic}
use Rattle.vx_expr.specs.Trees.{Trees, no_trees, tree}
use Rattle.vx_semantics.specs.Typing.{typed_of}
use Rattle.vx_semantics.specs.Meaning.{Slots, mean}
use Rattle.vx_semantics.specs.Breaks.{Cause, breaks_by}
use Rattle.vx_semantics.specs.Asked.{asked_columns}
use Rattle.vx_semantics.specs.Nodes.{some_node}
use Rattle.vx_semantics.specs.Tables.{row_type}
use Rattle.vx_passes.specs.Replacing.{root_replaced}
use Rattle.vx_passes.specs.TypedSimplifying.{simplified_typed}
use Rattle.vx_laws_simplifying.specs.Asking.{breaks_along, asks_along}
use Rattle.vx_laws_simplifying.specs.Narrowing.{narrows}

unfoldable mutual
  -- whether the row stands in an expression only straight below fields
  pub rowless : Tree → Bool
  rowless root = false
  rowless (literal s) = true
  rowless (get_item f e) = is_root_tree e || rowless e
  rowless (binary l op r) = rowless l && rowless r
  rowless (not_of e) = rowless e
  rowless (is_null_of e) = rowless e
  rowless (like e p negated fold_case) = rowless e && rowless p
  rowless (between e lower upper options) = rowless e && (rowless lower && rowless upper)
  rowless (cast e t) = rowless e
  rowless (list_contains l v) = rowless l && rowless v
  rowless (pack names es n) = all_rowless es
  rowless (merge es n) = all_rowless es
  rowless (select s e) = rowless e
  rowless (dynamic e op k t default) = rowless e

  -- the same of each expression of a list
  pub all_rowless : Trees → Bool
  all_rowless no_trees = true
  all_rowless (tree e es) = rowless e && all_rowless es

-- whether a node is this field of the row
abbrev pub is_column_node : Bytes → Tree → Bool
is_column_node c (get_item f root) = bytes_eq c f
is_column_node c _ = false

-- an expression over rows with these fields, strictly typed, and what simplifying by types makes of it with packs of the fields for the row
pub record Simplifies (fs : Fields) (e : Tree) (u : Ty) (d : Tree) : Type 0 where
  pub typed : typed_of (row_type fs) e ≡ Ok u
  pub made : simplified_typed (row_type fs) (root_replaced fs e) ≡ Ok d

-- a strictly typed expression is not refused, and keeps its type, but perhaps less nullable
abbrev pub PreservesType : Type 0
PreservesType =
    (fs : Fields) (e : Tree) (u : Ty) → typed_of (row_type fs) e ≡ Ok u
    → (d : Tree) × (v : Ty) × (simplified_typed (row_type fs) (root_replaced fs e) ≡ Ok d) × (typed_of (row_type fs) d ≡ Ok v) × (narrows v u ≡ true)

-- the row stands only below fields
abbrev pub PreservedIsRowless : Type 0
PreservedIsRowless = (fs : Fields) (e : Tree) (u : Ty) (d : Tree) → Simplifies fs e u d → rowless d ≡ true

-- some node is a field of the row exactly where the expression asks this column
abbrev pub PreservesColumns : Type 0
PreservesColumns =
    (fs : Fields) (e : Tree) (u : Ty) (d : Tree) (c : Bytes) → Simplifies fs e u d
    → some_node (is_column_node c) d ≡ asks_along (row_type fs) e [] c

-- and it asks the columns that the expression asks, in the same order
abbrev pub PreservesAskedColumns : Type 0
PreservesAskedColumns =
    (fs : Fields) (e : Tree) (u : Ty) (d : Tree) → Simplifies fs e u d → asked_columns (row_type fs) d ≡ asked_columns (row_type fs) e

-- at each row that fits but for faults, with any slots, it means the same
abbrev pub PreservesMeaning : Type 0
PreservesMeaning =
    (fs : Fields) (slots : Slots) (row : Val) (e : Tree) (u : Ty) (d : Tree) → Simplifies fs e u d
    → fits_but_for_faults row (row_type fs) ≡ true
    → mean (row_type fs) slots row d ≡ mean (row_type fs) slots row e

-- there some node breaks by a cause exactly where a node that the expression asks breaks by this cause
abbrev pub PreservesBreaks : Type 0
PreservesBreaks =
    (fs : Fields) (slots : Slots) (row : Val) (e : Tree) (u : Ty) (d : Tree) (cause : Cause) → Simplifies fs e u d
    → fits_but_for_faults row (row_type fs) ≡ true
    → some_node (breaks_by cause (row_type fs) slots row) d ≡ breaks_along cause (row_type fs) slots row e []
