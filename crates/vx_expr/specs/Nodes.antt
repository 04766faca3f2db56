-- How the nodes of the code are seen: each as its expression, and the parts that each kind has.
use Rattle.std.specs.Prelude.{ℕ, Bool, List}
use Rattle.vx_dtype.specs.declared.Nullability.{Nullability}
use Rattle.vx_dtype.specs.declared.CompareOperator.{CompareOperator}
use Rattle.vx_dtype.specs.declared.BetweenOptions.{BetweenOptions}
use Rattle.vx_dtype.specs.Types.{Bytes, Ty}
use Rattle.vx_dtype.specs.TypeViews.{type_view}
use Rattle.vx_dtype.specs.Values.{Typed}
use Rattle.vx_expr.specs.declared.operators.Operator.{Operator}
use Rattle.vx_expr.specs.declared.selections.FieldSelection.{FieldSelection}
use Rattle.vx_expr.specs.declared.expressions.Expr.{Expr}
use Rattle.vx_expr.specs.declared.expressions.Expr.TheVariants.{Between, Binary, Cast, Dynamic, GetItem, IsNull, Like}
use Rattle.vx_expr.specs.declared.expressions.Expr.TheVariants.{ListContains, Literal, Merge, Not, Pack, Root, Select}
use Rattle.vx_expr.specs.declared.exprs.between.BetweenExpr.{BetweenExpr}
use Rattle.vx_expr.specs.declared.exprs.binary.BinaryExpr.{BinaryExpr}
use Rattle.vx_expr.specs.declared.exprs.cast.CastExpr.{CastExpr}
use Rattle.vx_expr.specs.declared.exprs.dynamic.DynamicComparisonExpr.{DynamicComparisonExpr}
use Rattle.vx_expr.specs.declared.exprs.get_item.GetItemExpr.{GetItemExpr}
use Rattle.vx_expr.specs.declared.exprs.like.LikeExpr.{LikeExpr}
use Rattle.vx_expr.specs.declared.exprs.list_contains.ListContainsExpr.{ListContainsExpr}
use Rattle.vx_expr.specs.declared.exprs.literal.LiteralExpr.{LiteralExpr}
use Rattle.vx_expr.specs.declared.exprs.merge.MergeExpr.{MergeExpr}
use Rattle.vx_expr.specs.declared.exprs.root.RootExpr.{RootExpr}
use Rattle.vx_expr.specs.declared.exprs.select.SelectExpr.{SelectExpr}
use Rattle.vx_expr.specs.declared.exprs.unary.Negation.{Negation}
use Rattle.vx_expr.specs.declared.exprs.unary.NullTest.{NullTest}
use Rattle.vx_expr.specs.declared.exprs.unary.UnaryExpr.{UnaryExpr}
use Rattle.vx_expr.specs.Trees.{Tree, root, literal, get_item, binary, like}
use Rattle.vx_expr.specs.Trees.{between, cast, list_contains, merge, select, dynamic, trees_of}
use Rattle.vx_expr.specs.Operators.{range_as_binary}
use Rattle.vx_expr.specs.Packed.{pack_tree}
use Rattle.vx_expr.specs.UnaryOperators.{Unary, negation, null_test, operation}

-- an operator on one operand: the operand
abbrev pub unary_child : {O : Type 0} → UnaryExpr O Tree → Tree
unary_child x = x.child

-- the expression of this operator on it
abbrev pub unary_tree : {O : Type 0} → Unary → UnaryExpr O Tree → Tree
unary_tree operator x = operation operator (unary_child x)

-- a range: the value, its bounds, and whether each is strict
abbrev pub between_value : BetweenExpr → Tree
between_value x = x.arr

abbrev pub between_lower : BetweenExpr → Tree
between_lower x = x.lower

abbrev pub between_upper : BetweenExpr → Tree
between_upper x = x.upper

abbrev pub between_options : BetweenExpr → BetweenOptions
between_options x = x.options

abbrev pub between_tree : BetweenExpr → Tree
between_tree x = between (between_value x) (between_lower x) (between_upper x) (between_options x)

-- the two comparisons that a range stands for
abbrev pub between_as_binary : BetweenExpr → Tree
between_as_binary x = range_as_binary (between_value x) (between_lower x) (between_upper x) (between_options x)

-- two operands under an operator
abbrev pub binary_left : BinaryExpr → Tree
binary_left x = x.lhs

abbrev pub binary_operator : BinaryExpr → Operator
binary_operator x = x.operator

abbrev pub binary_right : BinaryExpr → Tree
binary_right x = x.rhs

abbrev pub binary_tree : BinaryExpr → Tree
binary_tree x = binary (binary_left x) (binary_operator x) (binary_right x)

-- a cast: the value and the type
abbrev pub cast_child : CastExpr → Tree
cast_child x = x.child

abbrev pub cast_target : CastExpr → Ty
cast_target x = type_view x.target

abbrev pub cast_tree : CastExpr → Tree
cast_tree x = cast (cast_child x) (cast_target x)

-- a comparison with a slot: the operand, the operator, the slot's number and type, and the answer where the slot has no value
abbrev pub dynamic_left : DynamicComparisonExpr → Tree
dynamic_left x = x.lhs

abbrev pub dynamic_operator : DynamicComparisonExpr → CompareOperator
dynamic_operator x = x.operator

abbrev pub dynamic_slot : DynamicComparisonExpr → ℕ
dynamic_slot x = x.slot

abbrev pub dynamic_dtype : DynamicComparisonExpr → Ty
dynamic_dtype x = type_view x.rhs_dtype

abbrev pub dynamic_default : DynamicComparisonExpr → Bool
dynamic_default x = x.default

abbrev pub dynamic_tree : DynamicComparisonExpr → Tree
dynamic_tree x = dynamic (dynamic_left x) (dynamic_operator x) (dynamic_slot x) (dynamic_dtype x) (dynamic_default x)

-- a field of a struct: its name, and the struct
abbrev pub item_field : GetItemExpr → Bytes
item_field x = x.field

abbrev pub item_child : GetItemExpr → Tree
item_child x = x.child

abbrev pub item_tree : GetItemExpr → Tree
item_tree x = get_item (item_field x) (item_child x)

-- a test for null: the value
abbrev pub is_null_child : UnaryExpr NullTest Tree → Tree
is_null_child x = unary_child x

abbrev pub is_null_tree : UnaryExpr NullTest Tree → Tree
is_null_tree x = unary_tree null_test x

-- a match: the text, the pattern, whether it is negated, and whether it disregards case
abbrev pub like_child : LikeExpr → Tree
like_child x = x.child

abbrev pub like_pattern : LikeExpr → Tree
like_pattern x = x.pattern

abbrev pub like_negated : LikeExpr → Bool
like_negated x = x.negated

abbrev pub like_fold_case : LikeExpr → Bool
like_fold_case x = x.case_insensitive

abbrev pub like_tree : LikeExpr → Tree
like_tree x = like (like_child x) (like_pattern x) (like_negated x) (like_fold_case x)

-- a membership: the list, and the value
abbrev pub contains_list : ListContainsExpr → Tree
contains_list x = x.list

abbrev pub contains_value : ListContainsExpr → Tree
contains_value x = x.value

abbrev pub contains_tree : ListContainsExpr → Tree
contains_tree x = list_contains (contains_list x) (contains_value x)

-- a constant: its value with its type
abbrev pub literal_value : LiteralExpr → Typed
literal_value x = x.value

abbrev pub literal_tree : LiteralExpr → Tree
literal_tree x = literal (literal_value x)

-- the fields of several structs: the structs, and whether the type has null
abbrev pub merge_values : MergeExpr → List Tree
merge_values x = x.values.items

abbrev pub merge_nullability : MergeExpr → Nullability
merge_nullability x = x.nullability

abbrev pub merge_tree : MergeExpr → Tree
merge_tree x = merge (trees_of (merge_values x)) (merge_nullability x)

-- a negation: the operand
abbrev pub not_child : UnaryExpr Negation Tree → Tree
not_child x = unary_child x

abbrev pub not_tree : UnaryExpr Negation Tree → Tree
not_tree x = unary_tree negation x

-- the row
abbrev pub root_tree : RootExpr → Tree
root_tree x = root

-- some fields of a struct: the choice, and the struct
abbrev pub select_fields : SelectExpr → FieldSelection
select_fields x = x.fields

abbrev pub select_child : SelectExpr → Tree
select_child x = x.child

abbrev pub select_tree : SelectExpr → Tree
select_tree x = select (select_fields x) (select_child x)

-- the expression that a node is
abbrev pub node_tree : Expr → Tree
node_tree (Between x) = between_tree x
node_tree (Binary x) = binary_tree x
node_tree (Cast x) = cast_tree x
node_tree (Dynamic x) = dynamic_tree x
node_tree (GetItem x) = item_tree x
node_tree (IsNull x) = is_null_tree x
node_tree (Like x) = like_tree x
node_tree (ListContains x) = contains_tree x
node_tree (Literal x) = literal_tree x
node_tree (Merge x) = merge_tree x
node_tree (Not x) = not_tree x
node_tree (Pack x) = pack_tree x
node_tree (Root x) = root_tree x
node_tree (Select x) = select_tree x
