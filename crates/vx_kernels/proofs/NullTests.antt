-- Tests of rows for null.
use Rattle.std.proofs.Common.{◌≡◌, refl, ap, ◌∙◌, sym, Bool, true, false, Option, Some, None, List, [], ◌∷◌, map, length}
use Rattle.std.specs.Prelude.{ℤ}
use Rattle.std.specs.Simd.Lanes.{zip2}
use Rattle.std.proofs.Math.ListN.{replicate}
use Rattle.vx_dtype.specs.declared.Nullability.TheVariants.{NonNullable}
use Rattle.vx_dtype.specs.declared.PType.{PType}
use Rattle.vx_dtype.specs.Types.{Ty}
use Rattle.vx_dtype.specs.TypeRules.{is_nullable, nullability_of}
use Rattle.vx_dtype.specs.Values.{Val, null_val, bool_val, int_val, text_val, list_val, struct_val, fault}
use Rattle.vx_dtype.specs.Logic.{is_null3, not3, and3}
use Rattle.vx_dtype.specs.Fits.{val_fits}
use Rattle.vx_words.specs.Words.{truth_val}
use Rattle.vx_words.specs.Truths.{vals_of}
use Rattle.vx_numbers.specs.Numbers.{NumberList, null_test}
use Rattle.vx_column.specs.RawParts.{truth_fits}
use Rattle.vx_column.specs.Columns.{rows_fit}
use Rattle.vx_column.specs.ColumnParts.{truths_fit, null_by}
use Rattle.vx_column.specs.PlainValues.{number_val, numbers_vals}
use Rattle.vx_column.proofs.FitLemmas.{both_of, of_both, never_null}

-- the rows of a type that isn't nullable are never null
pub none_null : (t : Ty) (vs : List Val) → is_nullable (nullability_of t) ≡ false → rows_fit t vs ≡ true → replicate (length vs) (bool_val false) ≡ map is_null3 vs
none_null t [] e h = refl
none_null t (v ∷ vs) e h =
    let both = both_of (val_fits v t) (rows_fit t vs) h in
    λ j. sym (never_null t v e both.0) j ∷ none_null t vs e both.1 j

-- of numbers
null_test_row : (p : PType) (i : Option ℤ) → truth_val (null_test i) ≡ is_null3 (number_val p i)
null_test_row p None = refl
null_test_row p (Some i) = refl

null_tests_rows : (p : PType) (ns : List (Option ℤ)) → vals_of (map null_test ns) ≡ map is_null3 (map (number_val p) ns)
null_tests_rows p [] = refl
null_tests_rows p (i ∷ is) = λ j. null_test_row p i j ∷ null_tests_rows p is j

pub null_tests_of : (ns : NumberList) (ts : List (Option Bool)) (rows : List Val) → numbers_vals ns ≡ rows → ts ≡ map null_test ns.numbers → vals_of ts ≡ map is_null3 rows
null_tests_of ns ts rows r e = ap vals_of e ∙ null_tests_rows ns.ptype ns.numbers ∙ ap (map is_null3) r

-- of truths that tell which rows are null: they are the tests themselves, false where one is null
hidden_row : (t : Option Bool) → and3 (truth_val t) (not3 (is_null3 (truth_val t))) ≡ null_by t
hidden_row None = refl
hidden_row (Some true) = refl
hidden_row (Some false) = refl

hidden_rows : (ts : List (Option Bool)) → zip2 and3 (vals_of ts) (map not3 (map is_null3 (vals_of ts))) ≡ map null_by ts
hidden_rows [] = refl
hidden_rows (t ∷ ts) = λ j. hidden_row t j ∷ hidden_rows ts j

pub nulls_hidden : (ts ns ks us : List (Option Bool)) (rows : List Val) → map null_by ts ≡ map is_null3 rows → vals_of ns ≡ map is_null3 (vals_of ts) → vals_of ks ≡ map not3 (vals_of ns) → vals_of us ≡ zip2 and3 (vals_of ts) (vals_of ks) → vals_of us ≡ map is_null3 rows
nulls_hidden ts ns ks us rows h n k u = u ∙ ap (zip2 and3 (vals_of ts)) (k ∙ ap (map not3) n) ∙ hidden_rows ts ∙ h

-- each test is a truth, so they are those of a boolean type that isn't nullable
test_known : (u : Option Bool) (v : Val) → truth_val u ≡ is_null3 v → truth_fits NonNullable u ≡ true
test_known (Some b) v e = refl
test_known None null_val e = absurd cc
test_known None (bool_val b) e = absurd cc
test_known None (int_val p i) e = absurd cc
test_known None (text_val s) e = absurd cc
test_known None (list_val xs) e = absurd cc
test_known None (struct_val ms) e = absurd cc
test_known None fault e = absurd cc

pub tests_known : (us : List (Option Bool)) (vs : List Val) → vals_of us ≡ map is_null3 vs → truths_fit NonNullable us ≡ true
tests_known [] vs e = refl
tests_known (u ∷ us) [] e = absurd cc
tests_known (u ∷ us) (v ∷ vs) e =
    let here : truth_val u ≡ is_null3 v = cc in
    let rest : vals_of us ≡ map is_null3 vs = cc in
    of_both _ _ (test_known u v here) (tests_known us vs rest)
