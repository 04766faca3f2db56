-- Membership between what the code holds and the values at rows.
use Rattle.std.proofs.Common.{◌≡◌, refl, ap, ◌∙◌, Bool, true, false, ◌||◌, Option, Some, None, option_map, unwrap_or}
use Rattle.std.specs.Ordering.{is_eq}
use Rattle.std.specs.declared.cmp.Ordering.{Ordering}
use Rattle.vx_dtype.specs.Types.{Ty, bool_ty, int_ty, text_ty, list_ty}
use Rattle.vx_dtype.specs.TypeRules.{is_plain, alike, nullability_of, union}
use Rattle.vx_dtype.specs.Values.{Raw, raw_null, raw_bool, raw_int, raw_text, raw_list, raw_struct, Raws, no_raws, raw, valued, all_valued, bool_val}
use Rattle.vx_dtype.specs.Fits.{fits, all_fit}
use Rattle.vx_dtype.specs.Logic.{is_true_val}
use Rattle.vx_dtype.specs.Order.{meets}
use Rattle.vx_dtype.specs.declared.CompareOperator.TheVariants.{Eq}
use Rattle.vx_dtype.specs.Lists.{contains3, has_element}
use Rattle.vx_words.specs.Words.{truth_val}
use Rattle.vx_column.specs.RawParts.{truth_fits}
use Rattle.vx_kernels.specs.RawRules.{raw_order, raws_have, raw_contains, lists_kind}
use Rattle.vx_column.proofs.FitLemmas.{both_of, nullable_left, nullable_right}
use Rattle.vx_kernels.proofs.OrderLemmas.{compare3_valued}

-- a comparison that is true
pub true_bool : (b : Bool) → is_true_val (truth_val (Some b)) ≡ b
true_bool true = refl
true_bool false = refl

pub true_equal : (o : Option Ordering) → is_true_val (truth_val (option_map (meets Eq) o)) ≡ unwrap_or (option_map is_eq o) false
true_equal None = refl
true_equal (Some o) = true_bool (is_eq o)

-- an element equals a value where their raw values are equal
pub has_element_valued : (t u : Ty) (xs : Raws) (y : Raw) → is_plain t ≡ true → alike t u ≡ true → all_fit xs t ≡ true → fits y u ≡ true → has_element (all_valued xs t) (valued y u) ≡ raws_have xs y
unfolding fits valued
has_element_valued t u no_raws y a b c d = refl
has_element_valued t u (raw x xs) y a b c d =
    let h = both_of (fits x t) (all_fit xs t) c in
    let here = ap is_true_val (compare3_valued Eq t u x y a b h.0 d) ∙ true_equal (raw_order x y) in
    let rest = has_element_valued t u xs y a b h.1 d in
    λ i. here i || rest i

-- whether a list holds a value
pub contains3_valued : (t u : Ty) (x y : Raw) → lists_kind t u ≡ true → fits x t ≡ true → fits y u ≡ true → contains3 (valued x t) (valued y u) ≡ truth_val (raw_contains x y)
unfolding fits valued alike
contains3_valued (list_ty (bool_ty k) n) (bool_ty m) raw_null raw_null a c d = refl
contains3_valued (list_ty (bool_ty k) n) (bool_ty m) raw_null (raw_bool j) a c d = refl
contains3_valued (list_ty (bool_ty k) n) (bool_ty m) (raw_list xs) raw_null a c d = refl
contains3_valued (list_ty (bool_ty k) n) (bool_ty m) (raw_list xs) (raw_bool j) a c d = ap bool_val (has_element_valued (bool_ty k) (bool_ty m) xs (raw_bool j) refl (both_of true (alike (bool_ty k) (bool_ty m)) a).1 c d)
contains3_valued (list_ty (int_ty p k) n) (int_ty q m) raw_null raw_null a c d = refl
contains3_valued (list_ty (int_ty p k) n) (int_ty q m) raw_null (raw_int j) a c d = refl
contains3_valued (list_ty (int_ty p k) n) (int_ty q m) (raw_list xs) raw_null a c d = refl
contains3_valued (list_ty (int_ty p k) n) (int_ty q m) (raw_list xs) (raw_int j) a c d = ap bool_val (has_element_valued (int_ty p k) (int_ty q m) xs (raw_int j) refl (both_of true (alike (int_ty p k) (int_ty q m)) a).1 c d)
contains3_valued (list_ty (text_ty k) n) (text_ty m) raw_null raw_null a c d = refl
contains3_valued (list_ty (text_ty k) n) (text_ty m) raw_null (raw_text j) a c d = refl
contains3_valued (list_ty (text_ty k) n) (text_ty m) (raw_list xs) raw_null a c d = refl
contains3_valued (list_ty (text_ty k) n) (text_ty m) (raw_list xs) (raw_text j) a c d = ap bool_val (has_element_valued (text_ty k) (text_ty m) xs (raw_text j) refl (both_of true (alike (text_ty k) (text_ty m)) a).1 c d)
contains3_valued _ _ _ _ a c d = cc

-- where there is none, one of the types has the null
pub contains_fits : (t u : Ty) (x y : Raw) → lists_kind t u ≡ true → fits x t ≡ true → fits y u ≡ true → truth_fits (union (nullability_of t) (nullability_of u)) (raw_contains x y) ≡ true
unfolding fits
contains_fits (list_ty e n) u raw_null y a c d = nullable_left n (nullability_of u) c
contains_fits (list_ty e n) u (raw_list xs) raw_null a c d = nullable_right n (nullability_of u) d
contains_fits (list_ty e n) u (raw_list xs) (raw_bool j) a c d = refl
contains_fits (list_ty e n) u (raw_list xs) (raw_int j) a c d = refl
contains_fits (list_ty e n) u (raw_list xs) (raw_text j) a c d = refl
contains_fits (list_ty e n) u (raw_list xs) (raw_list j) a c d = refl
contains_fits (list_ty e n) u (raw_list xs) (raw_struct j) a c d = refl
contains_fits _ _ _ _ a c d = cc
