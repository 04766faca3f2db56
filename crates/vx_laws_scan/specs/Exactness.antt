-- The class of filters whose pruning is exact: they rule a block out exactly where no instance at the block means true.
use Rattle.std.specs.Prelude.{ℕ, ◌≡◌, Bool, true, false, not, ◌&&◌, is_some, Some, Ok}
use Rattle.std.specs.Bool.{Decides}
use Rattle.vx_dtype.specs.declared.CompareOperator.{CompareOperator}
use Rattle.vx_dtype.specs.declared.Stat.TheVariants.{Min, Max}
use Rattle.vx_dtype.specs.Types.{Ty}
use Rattle.vx_dtype.specs.Values.{Raw, Val, list_val, Vals, no_vals, val, valued, value_of}
use Rattle.vx_dtype.specs.Fits.{fits}
use Rattle.vx_dtype.specs.Logic.{is_true_val, is_null_val}
use Rattle.vx_expr.specs.declared.Operator.{Operator}
use Rattle.vx_expr.specs.Trees.{Tree, root, literal, get_item, binary, not_of, between, list_contains}
use Rattle.vx_expr.specs.Operators.{comparison_of}
use Rattle.vx_semantics.specs.Typing.{typed_of}
use Rattle.vx_semantics.specs.Meaning.{Slots, mean}
use Rattle.vx_semantics.specs.Tables.{Zones, row_type}
use Rattle.vx_dtype.specs.Order.{compares}
use Rattle.vx_semantics.specs.Pruning.{known_at, rules_out}
use Rattle.vx_semantics.specs.Paths.{path_of}
use Rattle.vx_semantics.specs.Instances.{IsInstance}

-- a path, or a constant that is not null
abbrev pub is_operand : Tree → Bool
is_operand (literal s) = not (is_null_val (value_of s))
is_operand e = is_some (path_of e)

-- a filter of `and`, `or` and `not` over comparisons and ranges of such operands
unfoldable pub is_plain_filter : Tree → Bool
is_plain_filter (binary l Operator.And r) = is_plain_filter l && is_plain_filter r
is_plain_filter (binary l Operator.Or r) = is_plain_filter l && is_plain_filter r
is_plain_filter (binary l op r) = is_some (comparison_of op) && (is_operand l && is_operand r)
is_plain_filter (not_of e) = is_plain_filter e
is_plain_filter (between e lower upper options) = is_operand e && (is_operand lower && is_operand upper)
is_plain_filter _ = false

-- whether a value is a list without a null element
abbrev pub none_is_null : Vals → Bool
none_is_null no_vals = true
none_is_null (val v vs) = not (is_null_val v) && none_is_null vs

abbrev pub is_list_without_null : Val → Bool
is_list_without_null (list_val vs) = none_is_null vs
is_list_without_null _ = false

-- whether an expression is a constant list without a null element
abbrev pub is_constant_list : Tree → Bool
is_constant_list (literal s) = is_list_without_null (value_of s)
is_constant_list _ = false

-- a filter of `and` and `or` over plain filters and memberships of operands in constant lists without a null element
unfoldable pub is_exact_filter : Tree → Bool
is_exact_filter (binary l Operator.And r) = is_exact_filter l && is_exact_filter r
is_exact_filter (binary l Operator.Or r) = is_exact_filter l && is_exact_filter r
is_exact_filter (list_contains l e) = is_constant_list l && is_operand e
is_exact_filter e = is_plain_filter e

-- both bounds of a path are known in the block, are values of its type, and its least value is at most its greatest
pub record IsBounded (zones : Zones) (block : ℕ) (e : Tree) : Type 0 where
  pub ty : Ty
  pub of_its_type : typed_of (row_type zones.columns) e ≡ Ok ty
  pub low : Raw
  pub high : Raw
  pub low_fits : fits low ty ≡ true
  pub high_fits : fits high ty ≡ true
  pub least : known_at zones block Min (path_of e) ≡ Some (valued low ty)
  pub greatest : known_at zones block Max (path_of e) ≡ Some (valued high ty)
  pub in_order : compares CompareOperator.Lte (valued low ty) (valued high ty) ≡ true

-- each path of a filter of the class is so
unfoldable pub PathsAreBounded : Zones → ℕ → Tree → Type 0
PathsAreBounded zones block root = IsBounded zones block root
PathsAreBounded zones block (get_item f e) = IsBounded zones block (get_item f e)
PathsAreBounded zones block (binary l op r) = PathsAreBounded zones block l × PathsAreBounded zones block r
PathsAreBounded zones block (not_of e) = PathsAreBounded zones block e
PathsAreBounded zones block (between e lower upper options) =
    PathsAreBounded zones block e × PathsAreBounded zones block lower × PathsAreBounded zones block upper
PathsAreBounded zones block (list_contains l e) = PathsAreBounded zones block e
PathsAreBounded zones block _ = Unit {0}

-- a strictly typed filter of the class, whose paths are bounded in a block, rules the block out exactly where no instance of it means true
abbrev pub PruningIsExact : Type 0
PruningIsExact =
    (zones : Zones) (slots : Slots) (block : ℕ) (row : Val) (filter_expr : Tree) (u : Ty)
    → is_exact_filter filter_expr ≡ true → typed_of (row_type zones.columns) filter_expr ≡ Ok u → PathsAreBounded zones block filter_expr
    → Decides (rules_out zones slots block filter_expr)
    ((instance_expr : Tree) → IsInstance zones block filter_expr instance_expr → is_true_val (mean (row_type zones.columns) slots row instance_expr) ≡ false)
