-- Rows some of which are null are rows none of which is, null where truths say so.
use Rattle.std.proofs.Common.{◌≡◌, refl, ap, ◌∙◌, sym, ℕ, zero, suc, Bool, true, false, cond, List, [], ◌∷◌, map, length, Option, Some, arith}
use Rattle.vx_dtype.specs.declared.Nullability.TheVariants.{NonNullable, Nullable}
use Rattle.vx_dtype.specs.Types.{Ty, bool_ty, int_ty, text_ty, list_ty, struct_ty}
use Rattle.vx_dtype.specs.TypeRules.{is_nullable, nullability_of, with_nullability, is_bool_ty, is_int_ty, no_name_twice, depth_of}
use Rattle.vx_dtype.specs.Values.{Raw, raw_null, raw_bool, raw_int, raw_text, raw_list, raw_struct, null_val, bool_val, valued}
use Rattle.vx_dtype.specs.Fits.{fits}
use Rattle.vx_dtype.specs.RawViews.{raw_view}
use Rattle.vx_dtype.specs.declared.values.ScalarValue.{ScalarValue}
use Rattle.std.proofs.lemmas.Simd.{map-map}
use Rattle.std.proofs.Math.ListN.{replicate}
use Rattle.vx_dtype.specs.Logic.{is_true_val}
use Rattle.vx_words.specs.Words.{truth_val}
use Rattle.vx_words.specs.Truths.{vals_of}
use Rattle.vx_column.specs.RawParts.{is_raw_null}
use Rattle.vx_column.specs.Columns.{Column, column, raws_fit, raw_rows, values_fit, seen, seen_rows, masked, zip_rows}
use Rattle.vx_column.specs.Cells.{masks_apart}
use Rattle.vx_column.specs.Sizes.{depth_with}
use Rattle.vx_column.specs.Splits.{unless_null}
use Rattle.vx_column.proofs.FitLemmas.{both_of, of_both, valued_with_nullability, names_with_nullability}

-- whether a value is null, as a truth
abbrev null_truth : Raw → Option Bool
null_truth x = Some (is_raw_null x)

-- the type without null
abbrev pub whole_of : Ty → Ty
whole_of t = with_nullability t NonNullable

pub nullable_again : (t : Ty) → is_nullable (nullability_of t) ≡ true → with_nullability (whole_of t) Nullable ≡ t
nullable_again (bool_ty Nullable) e = refl
nullable_again (int_ty p Nullable) e = refl
nullable_again (text_ty Nullable) e = refl
nullable_again (list_ty t Nullable) e = refl
nullable_again (struct_ty fs Nullable) e = refl
nullable_again _ e = absurd cc

pub whole_apart : (t : Ty) → is_bool_ty t ≡ false → is_int_ty t ≡ false → masks_apart (whole_of t) ≡ true
whole_apart (bool_ty n) b i = absurd cc
whole_apart (int_ty p n) b i = absurd cc
whole_apart (text_ty n) b i = refl
whole_apart (list_ty t n) b i = refl
whole_apart (struct_ty fs n) b i = refl

pub apart_of : (t : Ty) → is_nullable (nullability_of t) ≡ false → is_bool_ty t ≡ false → is_int_ty t ≡ false → masks_apart t ≡ true
apart_of (bool_ty n) w b i = absurd cc
apart_of (int_ty p n) w b i = absurd cc
apart_of (text_ty NonNullable) w b i = refl
apart_of (list_ty t NonNullable) w b i = refl
apart_of (struct_ty fs NonNullable) w b i = refl
apart_of _ w b i = absurd cc

-- what stands in the place of null is a value of that type, and so is each other value
filled_fits : (x f : Raw) (t : Ty) → fits x t ≡ true → fits f (whole_of t) ≡ true → fits (unless_null f x) (whole_of t) ≡ true
unfolding fits
filled_fits raw_null f t e h = h
filled_fits (raw_bool b) f (bool_ty m) e h = refl
filled_fits (raw_int i) f (int_ty p m) e h = e
filled_fits (raw_text s) f (text_ty m) e h = refl
filled_fits (raw_list xs) f (list_ty t m) e h = e
filled_fits (raw_struct xs) f (struct_ty fs m) e h = e
filled_fits _ f t e h = absurd cc

pub all_filled_fit : (t : Ty) (f : Raw) (xs : List Raw) → raws_fit t xs ≡ true → fits f (whole_of t) ≡ true → raws_fit (whole_of t) (map (unless_null f) xs) ≡ true
all_filled_fit t f [] e h = refl
all_filled_fit t f (x ∷ xs) e h =
    let both = both_of (fits x t) (raws_fit t xs) e in
    of_both _ _ (filled_fits x f t both.0 h) (all_filled_fit t f xs both.1 h)

-- and with the places of nulls they are the rows
masked_value : (x f : Raw) (t : Ty) → masked (valued (unless_null f x) (whole_of t)) (bool_val (is_raw_null x)) ≡ valued x t
unfolding valued
masked_value raw_null f t = refl
masked_value (raw_bool b) f t = valued_with_nullability (raw_bool b) t NonNullable
masked_value (raw_int i) f t = valued_with_nullability (raw_int i) t NonNullable
masked_value (raw_text s) f t = valued_with_nullability (raw_text s) t NonNullable
masked_value (raw_list xs) f t = valued_with_nullability (raw_list xs) t NonNullable
masked_value (raw_struct xs) f t = valued_with_nullability (raw_struct xs) t NonNullable

pub masked_rows : (t : Ty) (f : Raw) (xs : List Raw)
    → zip_rows masked (raw_rows (whole_of t) (map (unless_null f) xs)) (vals_of (map null_truth xs)) ≡ raw_rows t xs
masked_rows t f [] = refl
masked_rows t f (x ∷ xs) = λ j. masked_value x f t j ∷ masked_rows t f xs j

-- ---- a constant that isn't null, of the type without null, and one that is
pub fits_whole : (x : Raw) (t : Ty) → fits x t ≡ true → is_raw_null x ≡ false → fits x (whole_of t) ≡ true
unfolding fits
fits_whole raw_null t e n = absurd cc
fits_whole (raw_bool b) (bool_ty m) e n = refl
fits_whole (raw_int i) (int_ty p m) e n = e
fits_whole (raw_text s) (text_ty m) e n = refl
fits_whole (raw_list xs) (list_ty t m) e n = e
fits_whole (raw_struct xs) (struct_ty fs m) e n = e
fits_whole _ t e n = absurd cc

pub null_seen : (x : Raw) (t : Ty) → is_raw_null x ≡ true → valued x t ≡ null_val
unfolding valued
null_seen raw_null t e = refl
null_seen _ t e = absurd cc

either_null : (b : Bool) → cond b null_val null_val ≡ null_val
either_null true = refl
either_null false = refl

pub null_masked : (n : ℕ) (ts : List (Option Bool)) → length ts ≡ n → zip_rows masked (replicate n null_val) (vals_of ts) ≡ replicate n null_val
null_masked zero ts e = refl
null_masked (suc n) [] e = absurd (omega (arith, e))
null_masked (suc n) (t ∷ ts) e = λ j. either_null (is_true_val (truth_val t)) j ∷ null_masked n ts (omega (arith, e)) j

pub constant_masked : (t w : Ty) (x y : ScalarValue) (c : Column) (n : ℕ) (ts : List (Option Bool)) → w ≡ whole_of t → is_nullable (nullability_of t) ≡ true → raw_view y ≡ raw_view x
    → c ≡ column w (replicate n (seen w y)) → column (with_nullability c.ty Nullable) (zip_rows masked c.rows (vals_of ts)) ≡ column t (zip_rows masked (replicate n (seen t x)) (vals_of ts))
constant_masked t w x y c n ts whole e same made =
    let type : with_nullability c.ty Nullable ≡ t = ap (λ (d : Column). with_nullability d.ty Nullable) made ∙ ap (λ u. with_nullability u Nullable) whole ∙ nullable_again t e in
    let value : seen w y ≡ seen t x = (λ j. valued (same j) (whole j)) ∙ valued_with_nullability (raw_view x) t NonNullable in
    let rows : c.rows ≡ replicate n (seen t x) = ap (λ (d : Column). d.rows) made ∙ ap (replicate n) value in
    λ j. column (type j) (zip_rows masked (rows j) (vals_of ts))

-- ---- for values of the code
module _ (t w : Ty) (f : ScalarValue) (xs ys : List ScalarValue) (whole : w ≡ whole_of t)
    (put : map raw_view ys ≡ map (λ x. unless_null (raw_view f) (raw_view x)) xs) where
  filled_raws : map raw_view ys ≡ map (unless_null (raw_view f)) (map raw_view xs)
  filled_raws = put ∙ sym (map-map (unless_null (raw_view f)) raw_view xs)

  pub filled_values_fit : values_fit t xs ≡ true → fits (raw_view f) w ≡ true → values_fit w ys ≡ true
  filled_values_fit e h =
      (λ j. raws_fit (whole j) (filled_raws j))
      ∙ all_filled_fit t (raw_view f) (map raw_view xs) e (ap (fits (raw_view f)) (sym whole) ∙ h)

  pub whole_names : no_name_twice t ≡ true → no_name_twice w ≡ true
  whole_names e = ap no_name_twice whole ∙ names_with_nullability t NonNullable ∙ e

  pub whole_depth : depth_of w ≡ depth_of t
  whole_depth = ap depth_of whole ∙ depth_with t NonNullable

  module _ (c : Column) (ns : List (Option Bool)) (made : c ≡ column w (seen_rows w ys)) (nulls : ns ≡ map (λ x. Some (is_raw_null (raw_view x))) xs) where
    pub masked_is : is_nullable (nullability_of t) ≡ true → column (with_nullability c.ty Nullable) (zip_rows masked c.rows (vals_of ns)) ≡ column t (seen_rows t xs)
    masked_is e =
        let type : with_nullability c.ty Nullable ≡ t =
        ap (λ (d : Column). with_nullability d.ty Nullable) made ∙ ap (λ u. with_nullability u Nullable) whole ∙ nullable_again t e in
        let raws : ns ≡ map null_truth (map raw_view xs) = nulls ∙ sym (map-map null_truth raw_view xs) in
        let rows : zip_rows masked c.rows (vals_of ns) ≡ seen_rows t xs =
        ap (λ (d : Column). zip_rows masked d.rows (vals_of ns)) made
        ∙ (λ j. zip_rows masked (raw_rows (whole j) (filled_raws j)) (vals_of (raws j)))
        ∙ masked_rows t (raw_view f) (map raw_view xs) in
        λ j. column (type j) (rows j)
