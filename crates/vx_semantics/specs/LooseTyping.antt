-- The looser typing, which asks less than the strict one:
-- a select is nullable where its child is, and passes over an excluded name that is missing;
-- a null test and a cast don't look at their child; comparisons, `and`, `or`, LIKE and membership ask nothing of their operands' types;
-- ranges and comparisons with a slot take lists and structs too; no name is refused because it stands twice.
use Rattle.std.specs.Prelude.{nat_eq, Bool, true, ◌&&◌, List, [], ◌∷◌, length, Result, Ok, Err}
use Rattle.vx_dtype.specs.declared.Nullability.{Nullability}
use Rattle.vx_dtype.specs.declared.Nullability.TheVariants.{NonNullable}
use Rattle.vx_dtype.specs.Types.{Bytes, Ty, bool_ty, struct_ty, Fields}
use Rattle.vx_dtype.specs.TypeRules.{union, nullability_of, alike}
use Rattle.vx_expr.specs.declared.Operator.{Operator}
use Rattle.vx_expr.specs.declared.FieldSelection.{FieldSelection}
use Rattle.vx_expr.specs.declared.FieldSelection.TheVariants.{Include, Exclude}
use Rattle.vx_expr.specs.Trees.{Tree, root, literal, get_item, binary, not_of, is_null_of, like, between, cast, list_contains, pack, merge, select, dynamic}
use Rattle.vx_expr.specs.Trees.{Trees, no_trees, tree}
use Rattle.vx_dtype.specs.StructTypes.{all_known}
use Rattle.vx_dtype.specs.Zipped.{zipped}
use Rattle.vx_semantics.specs.Typing.{Refusal, not_struct, unknown_field, type_mismatch, and_then, unless, item_type, selected_fields, merge_type}
use Rattle.vx_semantics.specs.Typing.{union_of, sum_type, not_type}

-- whether each included name is one of the fields'
abbrev pub included_known : FieldSelection → Fields → Bool
included_known (Include names) fs = all_known names fs
included_known (Exclude names) fs = true

-- the struct of the selected fields, nullable where the child is
abbrev pub loose_select_type : FieldSelection → Ty → Result Ty Refusal
loose_select_type s (struct_ty fs n) = unless (included_known s fs) unknown_field (Ok (struct_ty (selected_fields s fs) n))
loose_select_type s _ = Err not_struct

-- the struct of named values, whose names may stand twice
abbrev pub loose_pack_type : List Bytes → Nullability → List Ty → Result Ty Refusal
loose_pack_type names n ts = unless (nat_eq (length names) (length ts)) type_mismatch (Ok (struct_ty (zipped names ts) n))

-- a sum or a difference asks equal integer types, every other operator nothing
abbrev pub loose_binary_type : Operator → Ty → Ty → Result Ty Refusal
loose_binary_type Operator.Add a b = sum_type a b
loose_binary_type Operator.Sub a b = sum_type a b
loose_binary_type _ a b = Ok (bool_ty (union_of a b))

-- a range asks three equal types, a comparison with a slot two
abbrev pub loose_between_type : Ty → Ty → Ty → Result Ty Refusal
loose_between_type a lower upper =
    unless (alike a lower && alike a upper) type_mismatch (Ok (bool_ty (union (nullability_of a) (union_of lower upper))))

abbrev pub loose_dynamic_type : Ty → Ty → Result Ty Refusal
loose_dynamic_type slot a = unless (alike a slot) type_mismatch (Ok (bool_ty (union_of a slot)))

unfoldable mutual
  -- the type of an expression over the scope's type, by the looser rules
  pub loosely_typed : Ty → Tree → Result Ty Refusal
  loosely_typed t root = Ok t
  loosely_typed t (literal s) = Ok s.ty
  loosely_typed t (get_item f e) = and_then (loosely_typed t e) (item_type f)
  loosely_typed t (binary l op r) = and_then (loosely_typed t l) (λ a. and_then (loosely_typed t r) (loose_binary_type op a))
  loosely_typed t (not_of e) = and_then (loosely_typed t e) not_type
  loosely_typed t (is_null_of e) = Ok (bool_ty NonNullable)
  loosely_typed t (like e p negated fold_case) = and_then (loosely_typed t e) (λ a. and_then (loosely_typed t p) (λ b. Ok (bool_ty (union_of a b))))
  loosely_typed t (between e lower upper options) =
      and_then (loosely_typed t e) (λ a. and_then (loosely_typed t lower) (λ b. and_then (loosely_typed t upper) (loose_between_type a b)))
  loosely_typed t (cast e target) = Ok target
  loosely_typed t (list_contains l v) = and_then (loosely_typed t l) (λ a. and_then (loosely_typed t v) (λ b. Ok (bool_ty (union_of a b))))
  loosely_typed t (pack names es n) = and_then (all_loosely_typed t es) (loose_pack_type names n)
  loosely_typed t (merge es n) = and_then (all_loosely_typed t es) (merge_type n)
  loosely_typed t (select s e) = and_then (loosely_typed t e) (loose_select_type s)
  loosely_typed t (dynamic e op k slot default) = and_then (loosely_typed t e) (loose_dynamic_type slot)

  -- the types of a list of expressions, by the looser rules
  pub all_loosely_typed : Ty → Trees → Result (List Ty) Refusal
  all_loosely_typed t no_trees = Ok []
  all_loosely_typed t (tree e es) = and_then (loosely_typed t e) (λ a. and_then (all_loosely_typed t es) (λ ts. Ok (a ∷ ts)))
