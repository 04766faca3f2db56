-- `e IN (constants)`: membership in the list of those that aren't NULL, and where NULL is among them, true or null.
use Rattle.std.specs.Prelude.{Bool, true, false, ◌||◌, List, [], ◌∷◌, Result, Ok, Err}
use Rattle.vx_dtype.specs.declared.Nullability.TheVariants.{NonNullable, Nullable}
use Rattle.vx_dtype.specs.Types.{Ty, bool_ty, int_ty, list_ty}
use Rattle.vx_dtype.specs.TypeRules.{nullability_of, with_nullability, is_plain}
use Rattle.vx_dtype.specs.Values.{Raw, raw_null, raw_bool, raw_int, raw_text, raw_list, Raws, no_raws, raw}
use Rattle.vx_dtype.specs.Fits.{fits}
use Rattle.vx_dtype.specs.ScalarAnswers.{is_raw_null}
use Rattle.vx_expr.specs.declared.Operator.{Operator}
use Rattle.vx_expr.specs.Trees.{binary, list_contains}
use Rattle.vx_laws_sql.specs.Operands.{TypedTree, Operand, known, number, untyped_null, Mismatch, out_of_range, other_kinds, not_plain, no_constants}
use Rattle.vx_laws_sql.specs.Operands.{◌>>=◌, where_it, constant, null_of, boolean, text, taking}

-- a constant as an operand: NULL, a boolean, a number or a text
abbrev pub constant_operand : Raw → Operand
constant_operand (raw_int i) = number i
constant_operand (raw_bool b) = known (boolean b)
constant_operand (raw_text s) = known (text s)
constant_operand _ = untyped_null

-- the first constant that has a type of its own, else NULL
abbrev pub first_typed : List Raw → Operand
first_typed [] = untyped_null
first_typed (raw_bool b ∷ cs) = known (boolean b)
first_typed (raw_text s ∷ cs) = known (text s)
first_typed (c ∷ cs) = first_typed cs

-- why a constant is no value of the element type
abbrev pub wrong_constant : TypedTree → Ty → Raw → Mismatch
wrong_constant e (int_ty p n) (raw_int i) = out_of_range i p
wrong_constant e t c = other_kinds (known e) (constant_operand c)

-- a constant before the values of those behind it, which are looked at only where it is a value of the element type; NULL is left out
abbrev pub with_constant : TypedTree → Ty → Raw → Result Raws Mismatch → Result Raws Mismatch
with_constant e t raw_null behind = behind
with_constant e t c behind = where_it (fits c t) (wrong_constant e t c) (behind >>= λ rs. Ok (raw c rs))

-- the constants but NULL, as the values of a list; the first that is no value of the element type is refused
abbrev pub elements : TypedTree → Ty → List Raw → Result Raws Mismatch
elements e t [] = Ok no_raws
elements e t (c ∷ cs) = with_constant e t c (elements e t cs)

-- whether NULL is among the constants
abbrev pub has_null : List Raw → Bool
has_null [] = false
has_null (c ∷ cs) = is_raw_null c || has_null cs

-- the type of the list's elements
abbrev pub element_type : TypedTree → Ty
element_type e = with_nullability e.ty NonNullable

-- membership in a list of constants, none of which is NULL
abbrev pub listed_in : TypedTree → Raws → TypedTree
listed_in e rs = record {
  ty = bool_ty (nullability_of e.ty);
  tree = list_contains (constant (list_ty (element_type e) NonNullable) (raw_list rs)).tree e.tree;
}

-- the same, null where it isn't true
abbrev pub listed_or_null : TypedTree → Raws → TypedTree
listed_or_null e rs = record { ty = bool_ty Nullable; tree = binary (listed_in e rs).tree Operator.Or (null_of (bool_ty Nullable)).tree }

abbrev pub member_node : Bool → TypedTree → Raws → TypedTree
member_node false e rs = listed_in e rs
member_node true e rs = listed_or_null e rs

abbrev pub member_of : TypedTree → List Raw → Result TypedTree Mismatch
member_of e cs = where_it (is_plain e.ty) (not_plain (known e)) (elements e (element_type e) cs >>= λ rs. Ok (member_node (has_null cs) e rs))

-- `o IN (constants)`, of which there is one at least
abbrev pub membership : Operand → List Raw → Result TypedTree Mismatch
membership o [] = Err no_constants
membership o (c ∷ cs) = taking (first_typed (c ∷ cs)) o >>= λ e. member_of e (c ∷ cs)
