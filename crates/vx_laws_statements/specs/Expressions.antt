-- What an expression of SQL is over a table.
use Rattle.std.specs.Prelude.{ℕ, zero, suc, Bool, true, false, List, Option, Some, None, option_map, Result, Ok, Err}
use Rattle.sqlite_ast.specs.declared.Unary.{Unary}
use Rattle.sqlite_ast.specs.declared.Unary.TheVariants as unary
use Rattle.sqlite_ast.specs.declared.Binary.{Binary}
use Rattle.sqlite_ast.specs.declared.Binary.TheVariants as between_two
use Rattle.sqlite_ast.specs.declared.Expr.{Expr, out-Expr}
use Rattle.sqlite_ast.specs.declared.Expr.TheOpen.{Expr-F}
use Rattle.sqlite_ast.specs.Layer.{Layer}
use Rattle.vx_dtype.specs.declared.CompareOperator.TheVariants.{Eq, NotEq, Gt, Gte, Lt, Lte}
use Rattle.vx_dtype.specs.Types.{Bytes, Ty}
use Rattle.vx_expr.specs.Trees.{root, get_item}
use Rattle.vx_semantics.specs.Typing.{type_in}
use Rattle.vx_laws_sql.specs.Operands.{TypedTree, Operand, known, untyped_null, Mismatch, boolean}
use Rattle.vx_laws_sql.specs.Operands.{text}
use Rattle.vx_laws_sql.specs.Forms.{comparison, sum, difference, conjunction, disjunction, negation, null_test, not_null_test, pattern_test, range_test}
use Rattle.vx_laws_sql.specs.Forms.{cast_to}
use Rattle.vx_laws_sql.specs.Forms.{as_boolean}
use Rattle.vx_laws_sql.specs.Membership.{constant_operand, membership}
use Rattle.vx_laws_statements.specs.Refusals.{Refusal, too_deep, no_call, no_case, no_query, no_parameter, no_fraction, no_blob, no_prefix, no_operator}
use Rattle.vx_laws_statements.specs.Refusals.{no_column, no_field, no_condition, misplaced, ◌>>=◌, there, refused_as}
use Rattle.vx_laws_statements.specs.Constants.{text_of, number_of, constants_of, type_named}

-- the row of a table
abbrev pub row_of : Ty → TypedTree
row_of t = record { ty = t; tree = root }

-- a field of a struct, where there is one: its type is nullable also where the struct's is
abbrev pub item_in : Bytes → TypedTree → Result (Option TypedTree) Refusal
item_in f e = text_of f >>= λ g. Ok (option_map (λ u. record { ty = u; tree = get_item g e.tree }) (type_in g e.ty))

-- a column, and a field of a column
abbrev pub column_of : Ty → Option Bytes → Bytes → Result TypedTree Refusal
column_of t None f = item_in f (row_of t) >>= there (no_column f)
column_of t (Some c) f = item_in c (row_of t) >>= there (no_column c) >>= λ e. item_in f e >>= there (no_field c f)

abbrev pub column_operand : Ty → Option Bytes → Bytes → Result Operand Refusal
column_operand t c f = column_of t c f >>= λ e. Ok (known e)

-- a number, and a text
abbrev pub number_operand : Bool → Bytes → Result Operand Refusal
number_operand negative digits = number_of negative digits >>= λ c. Ok (constant_operand c)

abbrev pub text_operand : Bytes → Result Operand Refusal
text_operand s = text_of s >>= λ u. Ok (known (text u))

-- a form as an operand of a further form
abbrev pub placed : Result TypedTree Mismatch → Result Operand Refusal
placed made = refused_as misplaced made >>= λ x. Ok (known x)

-- the test that an operator before NULL is
abbrev pub null_test_of : Binary → Option (Operand → Result TypedTree Mismatch)
null_test_of between_two.Is = Some null_test
null_test_of between_two.IsNot = Some not_null_test
null_test_of _ = None

-- the form of an operator between two operands
abbrev pub formed : Binary → Operand → Operand → Result Operand Refusal
formed between_two.Or l r = placed (disjunction l r)
formed between_two.And l r = placed (conjunction l r)
formed between_two.Eq l r = placed (comparison Eq l r)
formed between_two.Ne l r = placed (comparison NotEq l r)
formed between_two.Lt l r = placed (comparison Lt l r)
formed between_two.Le l r = placed (comparison Lte l r)
formed between_two.Gt l r = placed (comparison Gt l r)
formed between_two.Ge l r = placed (comparison Gte l r)
formed between_two.Like l r = placed (pattern_test l r)
formed between_two.Add l r = placed (sum l r)
formed between_two.Sub l r = placed (difference l r)
formed between_two.Is l untyped_null = placed (null_test l)
formed between_two.IsNot l untyped_null = placed (not_null_test l)
formed op l r = Err (no_operator op)

-- over what an expression below is
module _ (below : Expr → Result Operand Refusal) where
  -- a sign before a number; before another operand it isn't taken
  abbrev pub signed : Unary → Bool → Expr → Layer → Result Operand Refusal
  signed sign negative x (Expr-F.Integer digits) = number_operand negative digits
  signed sign negative x _ = below x >>= λ o. Err (no_prefix sign)

  -- an operator before its operand
  unfoldable pub prefixed : Unary → Expr → Result Operand Refusal
  prefixed unary.Minus x = signed unary.Minus true x (out-Expr x)
  prefixed unary.Plus x = signed unary.Plus false x (out-Expr x)
  prefixed unary.Not x = below x >>= λ o. placed (negation o)
  prefixed op x = below x >>= λ o. Err (no_prefix op)

  -- an operator between two operands
  unfoldable pub operation : Binary → Expr → Expr → Result Operand Refusal
  operation op x y = below x >>= λ l. below y >>= λ r. formed op l r

  unfoldable pub in_range : Expr → Expr → Expr → Result Operand Refusal
  in_range x lower upper = below x >>= λ o. below lower >>= λ l. below upper >>= λ u. placed (range_test o l u)

  unfoldable pub in_list : Expr → List Expr → Result Operand Refusal
  in_list x members = below x >>= λ o. constants_of members >>= λ cs. placed (membership o cs)

  unfoldable pub in_type : Expr → Bytes → Result Operand Refusal
  in_type x name = below x >>= λ o. type_named name >>= λ target. placed (cast_to target o)

  abbrev pub opened_at : Ty → Layer → Result Operand Refusal
  opened_at t Expr-F.Null = Ok untyped_null
  opened_at t (Expr-F.Integer digits) = number_operand false digits
  opened_at t (Expr-F.Float written) = Err (no_fraction written)
  opened_at t (Expr-F.Text s) = text_operand s
  opened_at t (Expr-F.Blob digits) = Err (no_blob digits)
  opened_at t (Expr-F.Parameter n) = Err no_parameter
  opened_at t (Expr-F.Column c f) = column_operand t c f
  opened_at t (Expr-F.Truth name b) = Ok (known (boolean b))
  opened_at t (Expr-F.Unary op x) = prefixed op x
  opened_at t (Expr-F.Binary op x y) = operation op x y
  opened_at t (Expr-F.Between x lower upper) = in_range x lower upper
  opened_at t (Expr-F.InList x members) = in_list x members
  opened_at t (Expr-F.InSelect x query) = below x >>= λ o. Err no_query
  opened_at t (Expr-F.Exists query) = Err no_query
  opened_at t (Expr-F.Subquery query) = Err no_query
  opened_at t (Expr-F.Case operand arms other) = Err no_case
  opened_at t (Expr-F.Cast x name) = in_type x name
  opened_at t (Expr-F.Call name distinct arguments) = Err (no_call name)
  opened_at t (Expr-F.CallStar name) = Err (no_call name)

-- an expression of at most so many levels
unfoldable pub operand_within : ℕ → Ty → Expr → Result Operand Refusal
operand_within zero t e = Err too_deep
operand_within (suc levels) t e = opened_at (operand_within levels t) t (out-Expr e)

-- the levels of an expression that is read
abbrev pub most_levels : ℕ
most_levels = 300

-- what an expression is over a table's rows: an expression with its type, a number, or NULL
unfoldable pub operand_of : Ty → Expr → Result Operand Refusal
operand_of t e = operand_within most_levels t e

-- a condition: NULL is one
abbrev pub as_condition : Operand → Result TypedTree Refusal
as_condition o = refused_as (λ m. no_condition o) (as_boolean o)

unfoldable pub condition_of : Ty → Expr → Result TypedTree Refusal
condition_of t e = operand_of t e >>= as_condition
