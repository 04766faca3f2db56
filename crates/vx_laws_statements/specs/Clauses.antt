-- What the clauses of a SELECT name over a table.
use Rattle.std.specs.Prelude.{ℕ, pos, Bool, true, false, not, ◌==◌, is_some, cond, List, [], ◌∷◌, ◌++◌, length, map, Option, Some, None, Result, Ok, Err}
use Rattle.sqlite_ast.specs.declared.Expr.{Expr, out-Expr}
use Rattle.sqlite_ast.specs.declared.Expr.TheOpen.{Expr-F, Shown-F}
use Rattle.sqlite_ast.specs.declared.Shown.{Shown, out-Shown}
use Rattle.sqlite_ast.specs.declared.Sort.{Sort, out-Sort}
use Rattle.sqlite_ast.specs.declared.Source.{Source, out-Source}
use Rattle.sqlite_ast.specs.declared.Select.{Select}
use Rattle.sqlite_ast.specs.declared.Origin.{Origin}
use Rattle.sqlite_ast.specs.declared.Origin.TheVariants as origin
use Rattle.sqlite_ast.specs.Layer.{Layer, ShownLayer}
use Rattle.vx_dtype.specs.declared.PType.TheVariants.{U64}
use Rattle.vx_dtype.specs.declared.Nullability.TheVariants.{NonNullable}
use Rattle.vx_dtype.specs.Types.{Bytes, Ty, struct_ty, Fields, no_fields, field}
use Rattle.vx_dtype.specs.TypeRules.{fields_of, nullability_of, widened, is_plain, has_name}
use Rattle.vx_dtype.specs.Zipped.{zipped}
use Rattle.vx_dtype.specs.Fits.{in_range}
use Rattle.vx_dtype.specs.Values.{Raw, raw_int}
use Rattle.vx_expr.specs.Trees.{root, get_item, pack, trees_of}
use Rattle.vx_laws_sql.specs.Operands.{TypedTree, alone}
use Rattle.vx_laws_statements.specs.Refusals.{misplaced, StatementRefusal, no_table, no_join, no_inner_query, no_alias, no_table_name, in_where}
use Rattle.vx_laws_statements.specs.Refusals.{in_select, in_order, no_inner_columns, no_name, name_twice, several_keys, no_nulls_first}
use Rattle.vx_laws_statements.specs.Refusals.{no_key, no_order, no_limit, ◌>>=◌, unless, there, refused_as}
use Rattle.vx_laws_statements.specs.Constants.{text_of, constant_of}
use Rattle.vx_laws_statements.specs.Expressions.{row_of, column_of, operand_of, condition_of}

-- ---- FROM

-- one table without an alias and a condition, or none
abbrev pub plain_origin : Origin Select → Result (Unit {0}) StatementRefusal
plain_origin (origin.Table name) = Ok tt
plain_origin (origin.Query query) = Err no_inner_query

abbrev pub without_alias : Option Bytes → Result (Unit {0}) StatementRefusal
without_alias None = Ok tt
without_alias (Some alias) = Err (no_alias alias)

abbrev pub without_condition : Option Expr → List Bytes → Result (Unit {0}) StatementRefusal
without_condition on using = unless (not (is_some on)) no_join (unless (length using == 0) no_join (Ok tt))

abbrev pub plain_source : Source → Result (Unit {0}) StatementRefusal
plain_source s =
    plain_origin (out-Source s).origin >>= λ _. without_alias (out-Source s).alias >>= λ _. without_condition (out-Source s).on (out-Source s).using

unfoldable pub plain_from : List Source → Result (Unit {0}) StatementRefusal
plain_from [] = Ok tt
plain_from (s ∷ []) = plain_source s
plain_from (s ∷ other ∷ more) = Err no_join

abbrev pub table_at : Origin Select → Result Bytes StatementRefusal
table_at (origin.Table name) = refused_as (λ r. no_table_name name) (text_of name)
table_at (origin.Query query) = Err no_inner_query

-- the name of the table
unfoldable pub table_of : List Source → Result Bytes StatementRefusal
table_of [] = Err no_table
table_of (s ∷ more) = table_at (out-Source s).origin

-- ---- WHERE

unfoldable pub filter_of : Ty → Option Expr → Result (Option TypedTree) StatementRefusal
filter_of t None = Ok None
filter_of t (Some e) = refused_as in_where (condition_of t e) >>= λ x. Ok (Some x)

-- ---- SELECT

-- a field of the answer's rows, with its name
abbrev pub NamedTree : Type 0
NamedTree = Bytes × TypedTree

-- each column of a table
abbrev pub each_column : Ty → Fields → List NamedTree
each_column t no_fields = []
each_column t (field f u fs) = (f, record { ty = widened u (nullability_of t); tree = get_item f root }) ∷ each_column t fs

-- the name that a column has of itself
abbrev pub own_name : Layer → Option Bytes
own_name (Expr-F.Column c f) = Some f
own_name _ = None

abbrev pub name_of : Option Bytes → Bytes → Expr → Result Bytes StatementRefusal
name_of (Some name) written e = refused_as in_select (text_of name)
name_of None written e = there (no_name written) (own_name (out-Expr e)) >>= λ name. refused_as in_select (text_of name)

-- an expression of SELECT: a number and NULL are i64
abbrev pub value_of : Ty → Expr → Result TypedTree StatementRefusal
value_of t e = refused_as in_select (operand_of t e >>= λ o. refused_as misplaced (alone o))

abbrev pub shown_at : Ty → ShownLayer → Result (List NamedTree) StatementRefusal
shown_at t Shown-F.All = Ok (each_column t (fields_of t))
shown_at t (Shown-F.AllOf name) = Err (no_inner_columns name)
shown_at t (Shown-F.One e alias written) = value_of t e >>= λ x. name_of alias written e >>= λ name. Ok ((name, x) ∷ [])

-- named expressions with more behind them, no name twice
abbrev pub added : List NamedTree → List NamedTree → Result (List NamedTree) StatementRefusal
added found [] = Ok found
added found (x ∷ xs) = unless (not (has_name x.0 (map (λ y. y.0) found))) (name_twice x.0) (added (found ++ x ∷ []) xs)

abbrev pub shown_added : Ty → List NamedTree → Shown → Result (List NamedTree) StatementRefusal
shown_added t found s = shown_at t (out-Shown s) >>= added found

abbrev pub shown_behind : Ty → List NamedTree → List Shown → Result (List NamedTree) StatementRefusal
shown_behind t found [] = Ok found
shown_behind t found (s ∷ ss) = shown_added t found s >>= λ more. shown_behind t more ss

-- whether a `*` stands alone
abbrev pub is_star_at : ShownLayer → Bool
is_star_at Shown-F.All = true
is_star_at _ = false

abbrev pub is_star_alone : List Shown → Bool
is_star_alone [] = false
is_star_alone (s ∷ []) = is_star_at (out-Shown s)
is_star_alone (s ∷ other ∷ more) = false

-- the struct of named expressions
abbrev pub packed : List NamedTree → TypedTree
packed xs = record {
  ty = struct_ty (zipped (map (λ x. x.0) xs) (map (λ x. x.1.ty) xs)) NonNullable;
  tree = pack (map (λ x. x.0) xs) (trees_of (map (λ x. x.1.tree) xs)) NonNullable;
}

abbrev pub listed_rows : Ty → List Shown → Result TypedTree StatementRefusal
listed_rows t ss = shown_behind t [] ss >>= λ xs. Ok (packed xs)

-- the rows of the answer
unfoldable pub rows_of : Ty → List Shown → Result TypedTree StatementRefusal
rows_of t ss = cond (is_star_alone ss) (Ok (row_of t)) (listed_rows t ss)

-- ---- ORDER BY

-- a column that rows are ordered by, from the least on or from the greatest
pub record Key : Type 0 where
  pub column : Bytes
  pub descending : Bool

abbrev pub key_at : Ty → Bool → Layer → Result Key StatementRefusal
key_at t descending (Expr-F.Column None f) =
    refused_as in_order (column_of t None f) >>= λ e. unless (is_plain e.ty) (no_order f) (Ok (record { column = f; descending = descending }))
key_at t descending _ = Err no_key

abbrev pub nulls_last : Option Bool → Result (Unit {0}) StatementRefusal
nulls_last (Some true) = Err no_nulls_first
nulls_last _ = Ok tt

abbrev pub key_of : Ty → Sort → Result (Option Key) StatementRefusal
key_of t s = nulls_last (out-Sort s).nulls_first >>= λ _. key_at t (out-Sort s).descending (out-Expr (out-Sort s).key) >>= λ key. Ok (Some key)

unfoldable pub order_of : Ty → List Sort → Result (Option Key) StatementRefusal
order_of t [] = Ok None
order_of t (s ∷ []) = key_of t s
order_of t (s ∷ other ∷ more) = Err several_keys

-- ---- LIMIT

-- a number from 0 to the greatest of 64 bits
abbrev pub natural : Raw → Result ℕ StatementRefusal
natural (raw_int (pos n)) = unless (in_range U64 (pos n)) no_limit (Ok n)
natural _ = Err no_limit

unfoldable pub limit_of : Option Expr → Result (Option ℕ) StatementRefusal
limit_of None = Ok None
limit_of (Some e) = refused_as (λ r. no_limit) (constant_of e) >>= natural >>= λ n. Ok (Some n)
