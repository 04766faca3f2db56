-- Strict typing: the type of an expression over a scope, or the refusal of the first node in post-order that has none.
-- Within a node the refusals come in the order in which they are listed.
use Rattle.std.specs.Prelude.{nat_eq, Bool, true, false, cond, not, ◌&&◌, List, [], ◌∷◌, length, Option, option_map, ok_or, Result, Ok, Err}
use Rattle.std.specs.Option.{option_and_then}
use Rattle.std.specs.List.{list_all}
use Rattle.vx_dtype.specs.declared.Nullability.{Nullability}
use Rattle.vx_dtype.specs.declared.Nullability.TheVariants.{NonNullable}
use Rattle.vx_dtype.specs.Types.{Bytes, Ty, bool_ty, list_ty, struct_ty, Fields, no_fields, field}
use Rattle.vx_dtype.specs.TypeRules.{is_nullable, union, nullability_of, with_nullability, widened, alike, is_plain, is_bool_ty, is_int_ty, is_text_ty}
use Rattle.vx_dtype.specs.TypeRules.{fields_of, field_names, field_type, has_name, distinct_names, no_name_twice}
use Rattle.vx_dtype.specs.StructTypes.{is_struct_ty, with_field, fields_at, all_known}
use Rattle.vx_dtype.specs.Zipped.{zipped}
use Rattle.vx_dtype.specs.Values.{Typed}
use Rattle.vx_dtype.specs.Fits.{fits}
use Rattle.vx_dtype.specs.Casts.{takes_cast}
use Rattle.vx_expr.specs.declared.Operator.{Operator}
use Rattle.vx_expr.specs.declared.FieldSelection.{FieldSelection}
use Rattle.vx_expr.specs.declared.FieldSelection.TheVariants.{Include, Exclude}
use Rattle.vx_expr.specs.Selections.{listed_names}
use Rattle.vx_expr.specs.Trees.{Tree, root, literal, get_item, binary, not_of, is_null_of, like, between, cast, list_contains, pack, merge, select, dynamic}
use Rattle.vx_expr.specs.Trees.{Trees, no_trees, tree}
use Rattle.vx_semantics.specs.Merging.{merged_names, last_giver}

-- why an expression has no type
pub data Refusal : Type 0 where
  not_struct : Refusal
  nullable_select : Refusal
  unknown_field : Refusal
  duplicate_field : Refusal
  type_mismatch : Refusal

-- the answer of a step over what the steps before it gave, or their refusal
abbrev pub and_then : {X Y : Type 0} → Result X Refusal → (X → Result Y Refusal) → Result Y Refusal
and_then (Ok x) next = next x
and_then (Err r) next = Err r

-- the answer where the test holds, else the refusal
abbrev pub unless : {X : Type 0} → Bool → Refusal → Result X Refusal → Result X Refusal
unless true r answer = answer
unless false r answer = Err r

-- a type whose structs, at any depth, have no name twice
abbrev pub distinct_type : Ty → Result Ty Refusal
distinct_type t = unless (no_name_twice t) duplicate_field (Ok t)

-- a constant's type; a constant that is no value of its type has none
abbrev pub literal_type : Typed → Result Ty Refusal
literal_type s = and_then (distinct_type s.ty) (λ t. unless (fits s.value t) type_mismatch (Ok t))

-- a field's type in a struct type, nullable also where the struct is
abbrev pub type_in : Bytes → Ty → Option Ty
type_in f t = option_map (λ u. widened u (nullability_of t)) (field_type f (fields_of t))

-- the type of a field that the struct has to have
abbrev pub item_type : Bytes → Ty → Result Ty Refusal
item_type f (struct_ty fs n) = ok_or (type_in f (struct_ty fs n)) unknown_field
item_type f _ = Err not_struct

-- the fields whose names are not among these
abbrev pub fields_without : List Bytes → Fields → Fields
fields_without names no_fields = no_fields
fields_without names (field f t fs) = cond (has_name f names) (fields_without names fs) (field f t (fields_without names fs))

-- the fields that a selection gives
abbrev pub selected_fields : FieldSelection → Fields → Fields
selected_fields (Include names) fs = fields_at names fs
selected_fields (Exclude names) fs = fields_without names fs

-- whether no included name stands twice
abbrev pub included_once : FieldSelection → Bool
included_once (Include names) = distinct_names names
included_once (Exclude names) = true

-- the struct of the selected fields, not nullable
abbrev pub select_type : FieldSelection → Ty → Result Ty Refusal
select_type s (struct_ty fs n) =
    unless (not (is_nullable n)) nullable_select
    (unless (all_known (listed_names s) fs) unknown_field (unless (included_once s) duplicate_field (Ok (struct_ty (selected_fields s fs) NonNullable))))
select_type s _ = Err not_struct

-- the struct of named values; one with more names than values, or fewer, has no type
abbrev pub pack_type : List Bytes → Nullability → List Ty → Result Ty Refusal
pack_type names n ts =
    unless (distinct_names names) duplicate_field (unless (nat_eq (length names) (length ts)) type_mismatch (Ok (struct_ty (zipped names ts) n)))

-- the names of a type's fields, in order
abbrev pub names_in : Ty → List Bytes
names_in t = field_names (fields_of t)

-- of a name, its type in the last struct that gives it
abbrev pub merged_type_at : Bytes → List Ty → Option Ty
merged_type_at f ts = option_and_then (type_in f) (last_giver names_in f ts)

-- the fields with these names, each at its merged type
abbrev pub merged_fields_at : List Bytes → List Ty → Fields
merged_fields_at [] ts = no_fields
merged_fields_at (f ∷ fs) ts = with_field f (merged_type_at f ts) (merged_fields_at fs ts)

-- the struct of several structs' fields
abbrev pub merge_type : Nullability → List Ty → Result Ty Refusal
merge_type n ts = unless (list_all is_struct_ty ts) not_struct (Ok (struct_ty (merged_fields_at (merged_names names_in ts) ts) n))

-- the union of two types' nullabilities
abbrev pub union_of : Ty → Ty → Nullability
union_of a b = union (nullability_of a) (nullability_of b)

-- whether two types are equal but for nullability, and plain
abbrev pub equal_plain : Ty → Ty → Bool
equal_plain a b = alike a b && is_plain a

-- a comparison asks equal plain types, `and` and `or` two booleans, sums and differences equal integer types
abbrev pub compare_type : Ty → Ty → Result Ty Refusal
compare_type a b = unless (equal_plain a b) type_mismatch (Ok (bool_ty (union_of a b)))

abbrev pub logic_type : Ty → Ty → Result Ty Refusal
logic_type a b = unless (is_bool_ty a && is_bool_ty b) type_mismatch (Ok (bool_ty (union_of a b)))

abbrev pub sum_type : Ty → Ty → Result Ty Refusal
sum_type a b = unless (alike a b && is_int_ty a) type_mismatch (Ok (with_nullability a (union_of a b)))

abbrev pub binary_type : Operator → Ty → Ty → Result Ty Refusal
binary_type Operator.And a b = logic_type a b
binary_type Operator.Or a b = logic_type a b
binary_type Operator.Add a b = sum_type a b
binary_type Operator.Sub a b = sum_type a b
binary_type _ a b = compare_type a b

-- a negation asks a boolean, LIKE two texts
abbrev pub not_type : Ty → Result Ty Refusal
not_type a = unless (is_bool_ty a) type_mismatch (Ok a)

abbrev pub like_type : Ty → Ty → Result Ty Refusal
like_type a b = unless (is_text_ty a && is_text_ty b) type_mismatch (Ok (bool_ty (union_of a b)))

-- a range asks three equal plain types
abbrev pub between_type : Ty → Ty → Ty → Result Ty Refusal
between_type a lower upper =
    unless (equal_plain a lower && equal_plain a upper) type_mismatch (Ok (bool_ty (union (nullability_of a) (union_of lower upper))))

-- membership asks a list whose elements are plain and equal to the value's type
abbrev pub contains_type : Ty → Ty → Result Ty Refusal
contains_type (list_ty e n) v = unless (equal_plain e v) type_mismatch (Ok (bool_ty (union n (nullability_of v))))
contains_type _ v = Err type_mismatch

-- a cast asks a pair of types that casts take
abbrev pub cast_type : Ty → Ty → Result Ty Refusal
cast_type target a = unless (takes_cast a target) type_mismatch (Ok target)

-- a comparison with a slot asks a plain type equal to the slot's
abbrev pub dynamic_type : Ty → Ty → Result Ty Refusal
dynamic_type slot a = unless (equal_plain a slot) type_mismatch (Ok (bool_ty (union_of a slot)))

unfoldable mutual
  -- the type of an expression over the scope's type
  pub typed_of : Ty → Tree → Result Ty Refusal
  typed_of t root = distinct_type t
  typed_of t (literal s) = literal_type s
  typed_of t (get_item f e) = and_then (typed_of t e) (item_type f)
  typed_of t (binary l op r) = and_then (typed_of t l) (λ a. and_then (typed_of t r) (binary_type op a))
  typed_of t (not_of e) = and_then (typed_of t e) not_type
  typed_of t (is_null_of e) = and_then (typed_of t e) (λ a. Ok (bool_ty NonNullable))
  typed_of t (like e p negated fold_case) = and_then (typed_of t e) (λ a. and_then (typed_of t p) (like_type a))
  typed_of t (between e lower upper options) =
      and_then (typed_of t e) (λ a. and_then (typed_of t lower) (λ b. and_then (typed_of t upper) (between_type a b)))
  typed_of t (cast e target) = and_then (typed_of t e) (cast_type target)
  typed_of t (list_contains l v) = and_then (typed_of t l) (λ a. and_then (typed_of t v) (contains_type a))
  typed_of t (pack names es n) = and_then (all_typed t es) (pack_type names n)
  typed_of t (merge es n) = and_then (all_typed t es) (merge_type n)
  typed_of t (select s e) = and_then (typed_of t e) (select_type s)
  typed_of t (dynamic e op k slot default) = and_then (typed_of t e) (dynamic_type slot)

  -- the types of a list of expressions
  pub all_typed : Ty → Trees → Result (List Ty) Refusal
  all_typed t no_trees = Ok []
  all_typed t (tree e es) = and_then (typed_of t e) (λ a. and_then (all_typed t es) (λ ts. Ok (a ∷ ts)))

-- the type of an answer; of a refusal, the struct without fields
abbrev pub type_or_empty : Result Ty Refusal → Ty
type_or_empty (Ok t) = t
type_or_empty (Err r) = struct_ty no_fields NonNullable

-- the names of the fields that an expression gives
abbrev pub given_names : Ty → Tree → List Bytes
given_names t e = names_in (type_or_empty (typed_of t e))
