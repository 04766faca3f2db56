-- The meaning of an expression at one row: a value, null, or a fault.
use Rattle.std.specs.Prelude.{ℕ, Bool, List, [], ◌∷◌, Option, Some, None, option_map, unwrap_or}
use Rattle.vx_dtype.specs.declared.CompareOperator.{CompareOperator}
use Rattle.vx_dtype.specs.Types.{Bytes, Ty}
use Rattle.vx_dtype.specs.Values.{Val, bool_val, struct_val, fault, Members, no_members, member, Typed, value_of}
use Rattle.vx_dtype.specs.Logic.{and3, or3, not3, is_null3}
use Rattle.vx_dtype.specs.Order.{compare3, between3}
use Rattle.vx_dtype.specs.Sums.{add3, sub3}
use Rattle.vx_dtype.specs.Like.{like3}
use Rattle.vx_dtype.specs.Casts.{cast3}
use Rattle.vx_dtype.specs.Lists.{contains3}
use Rattle.vx_dtype.specs.Structs.{field_of, selected, deselected}
use Rattle.vx_expr.specs.declared.Operator.{Operator}
use Rattle.vx_expr.specs.declared.FieldSelection.{FieldSelection}
use Rattle.vx_expr.specs.declared.FieldSelection.TheVariants.{Include, Exclude}
use Rattle.vx_expr.specs.Trees.{Tree, root, literal, get_item, binary, not_of, is_null_of, like, between, cast, list_contains, pack, merge, select, dynamic}
use Rattle.vx_expr.specs.Trees.{Trees, no_trees, tree}
use Rattle.vx_expr.specs.Slots.{slot_held}
use Rattle.vx_semantics.specs.Merging.{merged_names, last_giver}
use Rattle.vx_semantics.specs.Typing.{given_names}

-- the slots of dynamic comparisons, each with its value where it has one
abbrev pub Slots : Type 0
Slots = List (Option Typed)

-- the value of a slot, none where the slot has none or there is no such slot
abbrev pub slot_value : Slots → ℕ → Option Val
slot_value slots k = option_map value_of (slot_held slots k)

-- two operands under an operator
abbrev pub binary3 : Operator → Val → Val → Val
binary3 Operator.Eq l r = compare3 CompareOperator.Eq l r
binary3 Operator.NotEq l r = compare3 CompareOperator.NotEq l r
binary3 Operator.Gt l r = compare3 CompareOperator.Gt l r
binary3 Operator.Gte l r = compare3 CompareOperator.Gte l r
binary3 Operator.Lt l r = compare3 CompareOperator.Lt l r
binary3 Operator.Lte l r = compare3 CompareOperator.Lte l r
binary3 Operator.And l r = and3 l r
binary3 Operator.Or l r = or3 l r
binary3 Operator.Add l r = add3 l r
binary3 Operator.Sub l r = sub3 l r

-- the included fields in their listed order, or the fields without the excluded ones
abbrev pub select3 : FieldSelection → Val → Val
select3 (Include names) v = selected names v
select3 (Exclude names) v = deselected names v

-- the answer of a comparison whose slot has no value; a fault of its operand counts
abbrev pub default_answer : Bool → Val → Val
default_answer b fault = fault
default_answer b _ = bool_val b

-- a comparison with a slot's value
abbrev pub dynamic3 : CompareOperator → Bool → Val → Option Val → Val
dynamic3 op default v (Some w) = compare3 op v w
dynamic3 op default v None = default_answer default v

-- a struct that goes into a merge: the names of its type and its value
pub record Source : Type 0 where
  pub names : List Bytes
  pub whole : Val

-- the names that a struct gives
abbrev pub source_names : Source → List Bytes
source_names s = s.names

-- the field of the last struct that gives this name; a fault where none does
abbrev pub merged_value : Bytes → List Source → Val
merged_value f ss = unwrap_or (option_map (λ s. field_of f s.whole) (last_giver source_names f ss)) fault

-- the members with these names, each with its merged value
abbrev pub merged_members : List Bytes → List Source → Members
merged_members [] ss = no_members
merged_members (f ∷ fs) ss = member f (merged_value f ss) (merged_members fs ss)

-- the struct of several structs' fields: names in order of first appearance, of one name the last field
abbrev pub merged : List Source → Val
merged ss = struct_val (merged_members (merged_names source_names ss) ss)

-- names and values as members, as far as both go
abbrev pub zip_members : List Bytes → List Val → Members
zip_members [] vs = no_members
zip_members (f ∷ fs) [] = no_members
zip_members (f ∷ fs) (v ∷ vs) = member f v (zip_members fs vs)

unfoldable mutual
  -- what an expression over the scope's type means at a row, with these slots
  pub mean : Ty → Slots → Val → Tree → Val
  mean t slots row root = row
  mean t slots row (literal s) = value_of s
  mean t slots row (get_item f e) = field_of f (mean t slots row e)
  mean t slots row (binary l op r) = binary3 op (mean t slots row l) (mean t slots row r)
  mean t slots row (not_of e) = not3 (mean t slots row e)
  mean t slots row (is_null_of e) = is_null3 (mean t slots row e)
  mean t slots row (like e p negated fold_case) = like3 negated fold_case (mean t slots row e) (mean t slots row p)
  mean t slots row (between e lower upper options) = between3 options (mean t slots row e) (mean t slots row lower) (mean t slots row upper)
  mean t slots row (cast e target) = cast3 target (mean t slots row e)
  mean t slots row (list_contains l v) = contains3 (mean t slots row l) (mean t slots row v)
  mean t slots row (pack names es n) = struct_val (zip_members names (meanings t slots row es))
  mean t slots row (merge es n) = merged (sources t slots row es)
  mean t slots row (select s e) = select3 s (mean t slots row e)
  mean t slots row (dynamic e op k slot default) = dynamic3 op default (mean t slots row e) (slot_value slots k)

  -- what a list of expressions means
  pub meanings : Ty → Slots → Val → Trees → List Val
  meanings t slots row no_trees = []
  meanings t slots row (tree e es) = mean t slots row e ∷ meanings t slots row es

  -- the structs that go into a merge
  pub sources : Ty → Slots → Val → Trees → List Source
  sources t slots row no_trees = []
  sources t slots row (tree e es) = record { names = given_names t e; whole = mean t slots row e } ∷ sources t slots row es
