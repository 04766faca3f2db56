-- The looser typing never refuses with a name that stands twice.
use Rattle.std.proofs.Common.{◌≡◌, Bool, true, false, ◌&&◌, List, ◌∷◌, length, Option, Some, None, Ok, Err, Result, refl, subst, true≢false}
use Rattle.std.specs.Prelude.{nat_eq, ok_or}
use Rattle.std.specs.List.{list_all}
use Rattle.vx_dtype.specs.declared.Nullability.{Nullability}
use Rattle.vx_dtype.specs.StructTypes.{is_struct_ty}
use Rattle.vx_dtype.specs.TypeRules.{alike, is_int_ty, is_bool_ty, with_nullability, union, nullability_of}
use Rattle.vx_dtype.specs.Zipped.{zipped}
use Rattle.vx_semantics.specs.Merging.{merged_names}
use Rattle.vx_dtype.specs.Types.{Bytes, Ty, bool_ty, int_ty, text_ty, list_ty, struct_ty}
use Rattle.vx_expr.specs.declared.Operator.{Operator}
use Rattle.vx_expr.specs.declared.FieldSelection.{FieldSelection}
use Rattle.vx_expr.specs.Trees.{Tree, root, literal, get_item, binary, not_of, is_null_of, like, between, cast, list_contains, pack, merge, select, dynamic, Trees, no_trees, tree}
use Rattle.vx_semantics.specs.Typing.{Refusal, not_struct, unknown_field, duplicate_field, type_mismatch, and_then, unless, item_type, type_in, merge_type, sum_type, not_type, selected_fields, names_in, merged_fields_at, union_of}
use Rattle.vx_semantics.specs.LooseTyping.{loosely_typed, all_loosely_typed, included_known, loose_select_type, loose_pack_type, loose_binary_type, loose_between_type, loose_dynamic_type}
use Rattle.vx_typing.specs.declared.errors.TypeError.{TypeError}
use Rattle.vx_typing.specs.TypingAnswers.{Refuses}

-- whether a refusal is of a name that stands twice
abbrev is_duplicate : Refusal → Bool
is_duplicate duplicate_field = true
is_duplicate _ = false

-- an answer, or another refusal
abbrev Allowed : {X : Type 0} → Result X Refusal → Type 0
Allowed (Ok x) = Unit {0}
Allowed (Err r) = is_duplicate r ≡ false

then_allowed : {X Y : Type 0} (r : Result X Refusal) (next : X → Result Y Refusal) → Allowed r → ((x : X) → Allowed (next x)) → Allowed (and_then r next)
then_allowed (Ok x) next h k = k x
then_allowed (Err e) next h k = h

unless_allowed : {X : Type 0} (b : Bool) (r : Refusal) (answer : Result X Refusal) → is_duplicate r ≡ false → Allowed answer → Allowed (unless b r answer)
unless_allowed true r answer h k = k
unless_allowed false r answer h k = h

known_allowed : {X : Type 0} (o : Option X) → Allowed (ok_or o unknown_field)
known_allowed (Some x) = tt
known_allowed None = refl

item_allowed : (f : Bytes) (t : Ty) → Allowed (item_type f t)
item_allowed f (struct_ty fs n) = known_allowed (type_in f (struct_ty fs n))
item_allowed f (bool_ty n) = refl
item_allowed f (int_ty p n) = refl
item_allowed f (text_ty n) = refl
item_allowed f (list_ty e n) = refl

select_allowed : (s : FieldSelection) (t : Ty) → Allowed (loose_select_type s t)
select_allowed s (struct_ty fs n) = unless_allowed (included_known s fs) unknown_field (Ok (struct_ty (selected_fields s fs) n)) refl tt
select_allowed s (bool_ty n) = refl
select_allowed s (int_ty p n) = refl
select_allowed s (text_ty n) = refl
select_allowed s (list_ty e n) = refl

sum_allowed : (a b : Ty) → Allowed (sum_type a b)
sum_allowed a b = unless_allowed (alike a b && is_int_ty a) type_mismatch (Ok (with_nullability a (union_of a b))) refl tt

between_allowed : (a lower upper : Ty) → Allowed (loose_between_type a lower upper)
between_allowed a lower upper =
    unless_allowed (alike a lower && alike a upper) type_mismatch (Ok (bool_ty (union (nullability_of a) (union_of lower upper)))) refl tt

dynamic_allowed : (slot a : Ty) → Allowed (loose_dynamic_type slot a)
dynamic_allowed slot a = unless_allowed (alike a slot) type_mismatch (Ok (bool_ty (union_of a slot))) refl tt

not_allowed : (a : Ty) → Allowed (not_type a)
not_allowed a = unless_allowed (is_bool_ty a) type_mismatch (Ok a) refl tt

pack_allowed : (names : List Bytes) (n : Nullability) (ts : List Ty) → Allowed (loose_pack_type names n ts)
pack_allowed names n ts = unless_allowed (nat_eq (length names) (length ts)) type_mismatch (Ok (struct_ty (zipped names ts) n)) refl tt

merge_allowed : (n : Nullability) (ts : List Ty) → Allowed (merge_type n ts)
merge_allowed n ts = unless_allowed (list_all is_struct_ty ts) not_struct (Ok (struct_ty (merged_fields_at (merged_names names_in ts) ts) n)) refl tt

two_allowed : (r q : Result Ty Refusal) → Allowed r → Allowed q → Allowed (and_then r (λ a. and_then q (λ b. Ok (bool_ty (union_of a b)))))
two_allowed r q h k = then_allowed r (λ a. and_then q (λ b. Ok (bool_ty (union_of a b)))) h (λ a. then_allowed q (λ b. Ok (bool_ty (union_of a b))) k (λ b. tt))

binary_allowed : (op : Operator) (a b : Ty) → Allowed (loose_binary_type op a b)
binary_allowed Operator.Eq a b = tt
binary_allowed Operator.NotEq a b = tt
binary_allowed Operator.Gt a b = tt
binary_allowed Operator.Gte a b = tt
binary_allowed Operator.Lt a b = tt
binary_allowed Operator.Lte a b = tt
binary_allowed Operator.And a b = tt
binary_allowed Operator.Or a b = tt
binary_allowed Operator.Add a b = sum_allowed a b
binary_allowed Operator.Sub a b = sum_allowed a b

mutual
  unfolding loosely_typed

  allowed : (t : Ty) (e : Tree) → Allowed (loosely_typed t e)
  allowed t root = tt
  allowed t (literal s) = tt
  allowed t (get_item f e) = then_allowed (loosely_typed t e) (item_type f) (allowed t e) (item_allowed f)
  allowed t (binary l op r) =
      then_allowed (loosely_typed t l) (λ a. and_then (loosely_typed t r) (loose_binary_type op a)) (allowed t l)
      (λ a. then_allowed (loosely_typed t r) (loose_binary_type op a) (allowed t r) (binary_allowed op a))
  allowed t (not_of e) = then_allowed (loosely_typed t e) not_type (allowed t e) not_allowed
  allowed t (is_null_of e) = tt
  allowed t (like e p negated fold_case) = two_allowed (loosely_typed t e) (loosely_typed t p) (allowed t e) (allowed t p)
  allowed t (between e lower upper options) =
      then_allowed (loosely_typed t e) (λ a. and_then (loosely_typed t lower) (λ b. and_then (loosely_typed t upper) (loose_between_type a b))) (allowed t e)
      (λ a. then_allowed (loosely_typed t lower) (λ b. and_then (loosely_typed t upper) (loose_between_type a b)) (allowed t lower)
      (λ b. then_allowed (loosely_typed t upper) (loose_between_type a b) (allowed t upper) (between_allowed a b)))
  allowed t (cast e target) = tt
  allowed t (list_contains l v) = two_allowed (loosely_typed t l) (loosely_typed t v) (allowed t l) (allowed t v)
  allowed t (pack names es n) = then_allowed (all_loosely_typed t es) (loose_pack_type names n) (all_allowed t es) (pack_allowed names n)
  allowed t (merge es n) = then_allowed (all_loosely_typed t es) (merge_type n) (all_allowed t es) (merge_allowed n)
  allowed t (select s e) = then_allowed (loosely_typed t e) (loose_select_type s) (allowed t e) (select_allowed s)
  allowed t (dynamic e op k slot default) = then_allowed (loosely_typed t e) (loose_dynamic_type slot) (allowed t e) (dynamic_allowed slot)

  all_allowed : (t : Ty) (es : Trees) → Allowed (all_loosely_typed t es)
  all_allowed t no_trees = tt
  all_allowed t (tree e es) =
      then_allowed (loosely_typed t e) (λ a. and_then (all_loosely_typed t es) (λ ts. Ok (a ∷ ts))) (allowed t e)
      (λ a. then_allowed (all_loosely_typed t es) (λ ts. Ok (a ∷ ts)) (all_allowed t es) (λ ts. tt))

never_duplicate : (t : Ty) (e : Tree) → loosely_typed t e ≡ Err duplicate_field → ⊥
never_duplicate t e h = true≢false (subst Allowed h (allowed t e))

-- so typing doesn't answer it
pub never_refuses : (t : Ty) (e : Tree) (r : TypeError) → r ≡ TypeError.DuplicateField → Refuses (loosely_typed t e) r → ⊥
never_refuses t e r is h = never_duplicate t e (subst (λ x. Refuses (loosely_typed t e) x) is h)
