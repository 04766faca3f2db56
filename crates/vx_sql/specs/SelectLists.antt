-- For the checker: no public clause cites this. The columns of an answer, as they are collected.
use Rattle.std.specs.Prelude.{◌≡◌, List, [], ◌∷◌, map, Result, Ok, Err}
use Rattle.std.specs.Ordering.{nat_cmp}
use Rattle.std.specs.Cmp.Lexicographic.{slice_cmp}
use Rattle.std.specs.BTreeSet as set
use Rattle.vx_dtype.specs.declared.Nullability.{Nullability}
use Rattle.vx_dtype.specs.Types.{Bytes, Ty}
use Rattle.vx_dtype.specs.TypeRules.{widened, has_name}
use Rattle.vx_expr.specs.Trees.{get_item, root}
use Rattle.vx_sql_forms.specs.declared.TypedExpr.{TypedExpr}
use Rattle.vx_sql_forms.specs.Views.{typed_view}
use Rattle.vx_laws_statements.specs.Refusals.{StatementRefusal}
use Rattle.vx_laws_statements.specs.Clauses.{NamedTree}
use Rattle.vx_sql.specs.declared.select_lists.Columns.{Columns}
use Rattle.vx_sql.specs.declared.statement_refusals.SqlError.{SqlError}
use Rattle.vx_sql.specs.StatementAnswers.{RefusesStatement}

-- a named expression
abbrev pub named_view : Bytes × TypedExpr → NamedTree
named_view x = (x.0, typed_view x.1)

abbrev pub columns_view : Columns → List NamedTree
columns_view columns = map named_view columns.found.items

-- the set has the names of the columns
abbrev pub AreNames : Columns → Type 0
AreNames columns =
    (q : Bytes) → set.contains (slice_cmp nat_cmp) columns.names q ≡ has_name q (map (λ x. x.0) (columns_view columns))

-- the columns afterwards are those that the rules give, or the rules refuse
abbrev pub Adds : Result (List NamedTree) StatementRefusal → Result (Unit {0}) SqlError → Columns → Type 0
Adds given (Ok done) new = given ≡ Ok (columns_view new)
Adds given (Err e) new = RefusesStatement given e

-- columns of a table, by their names and types
abbrev pub named_columns : Nullability → List Bytes → List Ty → List NamedTree
named_columns n [] us = []
named_columns n (f ∷ fs) [] = []
named_columns n (f ∷ fs) (u ∷ us) = (f, record { ty = widened u n; tree = get_item f root }) ∷ named_columns n fs us
