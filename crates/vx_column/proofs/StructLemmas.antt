-- Struct columns: what rows of values of the fields' columns stand for.
use Rattle.std.proofs.Common.{◌≡◌, refl, ap, ◌∙◌, sym, ℕ, zero, suc, ◌+◌, ◌<◌, true, List, [], ◌∷◌, ◌++◌, ◌==◌, IfOk, Result, Ok, Err, map, length, take, get_or, arith, add-one}
use Rattle.std.specs.List.{AllZip, All}
use Rattle.vx_dtype.specs.Types.{Bytes, struct_ty}
use Rattle.vx_dtype.specs.declared.Nullability.{Nullability}
use Rattle.vx_dtype.proofs.ZippedLemmas.{field_names_zipped}
use Rattle.vx_dtype.specs.TypeRules.{distinct_names, no_name_twice, no_name_twice_below}
use Rattle.vx_dtype.specs.Zipped.{zipped}
use Rattle.vx_dtype.specs.Fits.{fits, fields_fit}
use Rattle.vx_dtype.specs.Values.{struct_val, member, raw_struct, members_valued, valued}
use Rattle.vx_dtype.specs.RawViews.{raw_view, raws_of}
use Rattle.vx_dtype.specs.declared.values.ScalarValue.{ScalarValue}
use Rattle.vx_dtype.specs.TypeViews.{type_view}
use Rattle.vx_dtype.specs.declared.types.DType.{DType}
use Rattle.std.proofs.lemmas.List.{map_more, map-append}
use Rattle.vx_dtype.proofs.ValuedLemmas.{valued-struct}
use Rattle.vx_column.specs.Columns.{Column, seen}
use Rattle.vx_column.specs.StructColumns.{column_types, all_have_rows, row_members, StandsAt}
use Rattle.vx_column.proofs.FitLemmas.{both_of, of_both}

-- values that stand for the columns' rows are one per field
pub row_fits : (fs : List Bytes) (cs : List Column) (xs : List ScalarValue) (i : ℕ) → length fs ≡ length cs → AllZip (StandsAt i) cs xs → fields_fit (raws_of (map raw_view xs)) (zipped fs (column_types cs)) ≡ true
unfolding fits
row_fits [] [] [] i e h = refl
row_fits [] (c ∷ cs) xs i e h = absurd (omega (arith, e))
row_fits (f ∷ fs) [] xs i e h = absurd (omega (arith, e))
row_fits fs [] (x ∷ xs) i e h = absurd h
row_fits (f ∷ fs) (c ∷ cs) [] i e h = absurd h
row_fits (f ∷ fs) (c ∷ cs) (x ∷ xs) i e h = of_both _ _ h.0.0 (row_fits fs cs xs i (omega (arith, e)) h.1)

-- and stand for the members of the row
pub row_stands : (fs : List Bytes) (cs : List Column) (xs : List ScalarValue) (i : ℕ) → length fs ≡ length cs → AllZip (StandsAt i) cs xs → members_valued (raws_of (map raw_view xs)) (zipped fs (column_types cs)) ≡ row_members fs cs i
unfolding valued
row_stands [] [] [] i e h = refl
row_stands [] (c ∷ cs) xs i e h = absurd (omega (arith, e))
row_stands (f ∷ fs) [] xs i e h = absurd (omega (arith, e))
row_stands fs [] (x ∷ xs) i e h = absurd h
row_stands (f ∷ fs) (c ∷ cs) [] i e h = absurd h
row_stands (f ∷ fs) (c ∷ cs) (x ∷ xs) i e h = λ j. member f (h.0.1 j) (row_stands fs cs xs i (omega (arith, e)) h.1 j)

-- one more of two lists, place by place
all_zip_suc : {A B : Type 0} (R : A → B → Type 0) (xs : List A) (ys : List B) (i : ℕ) (d : A) (y : B) → i < length xs → AllZip R (take i xs) ys → R (get_or xs i d) y → AllZip R (take (suc i) xs) (ys ++ y ∷ [])
all_zip_suc R [] ys i d y k h r = absurd (omega arith)
all_zip_suc R (x ∷ xs) [] zero d y k h r = (r, tt)
all_zip_suc R (x ∷ xs) (z ∷ ys) zero d y k h r = absurd h
all_zip_suc R (x ∷ xs) [] (suc i) d y k h r = absurd h
all_zip_suc R (x ∷ xs) (z ∷ ys) (suc i) d y k h r = (h.0, all_zip_suc R xs ys i d y (omega arith) h.1 r)

pub all_zip_more : {A B : Type 0} (R : A → B → Type 0) (xs : List A) (ys : List B) (i : ℕ) (d : A) (y : B) → i < length xs → AllZip R (take i xs) ys → R (get_or xs i d) y → AllZip R (take (i + 1) xs) (ys ++ y ∷ [])
all_zip_more R xs ys i d y k h r = rw add-one (all_zip_suc R xs ys i d y k h r)

-- where columns have this many rows, each has a row before
pub all_rows_at : (n : ℕ) (cs : List Column) (i : ℕ) → all_have_rows n cs ≡ true → i < n → All (λ c. i < length c.rows) cs
all_rows_at n [] i e h k d q = absurd (omega arith)
all_rows_at n (c ∷ cs) i e h zero d q =
    let first : (length c.rows == n) ≡ true = (both_of (length c.rows == n) (all_have_rows n cs) e).0 in
    grind (arith, first)
all_rows_at n (c ∷ cs) i e h (suc k) d q = all_rows_at n cs i (both_of (length c.rows == n) (all_have_rows n cs) e).1 h k d (omega arith)

-- the types of columns without a name twice have none below a struct of them
pub names_below : (fs : List Bytes) (cs : List Column) → All (λ c. no_name_twice c.ty ≡ true) cs → no_name_twice_below (zipped fs (column_types cs)) ≡ true
unfolding no_name_twice
names_below [] cs h = refl
names_below (f ∷ fs) [] h = refl
names_below (f ∷ fs) (c ∷ cs) h = of_both _ _ (h 0 c (omega arith)) (names_below fs cs (λ k d q. h (suc k) d (omega arith)))

pub names_made : (fs : List Bytes) (cs : List Column) (n : Nullability) → length fs ≡ length cs → distinct_names fs ≡ true → All (λ c. no_name_twice c.ty ≡ true) cs → no_name_twice (struct_ty (zipped fs (column_types cs)) n) ≡ true
unfolding no_name_twice
names_made fs cs n e d h = of_both _ _ (ap distinct_names (field_names_zipped (λ (c : Column). c.ty) fs cs e) ∙ d) (names_below fs cs h)

-- what holds of an answer holds of it in other words
pub if_ok_map : {T E : Type 0} (P Q : T → Type 0) (r : Result T E) → ((x : T) → P x → Q x) → IfOk r P → IfOk r Q
if_ok_map P Q (Ok x) f h = f x h
if_ok_map P Q (Err e) f h = h

-- the struct value of such values is one of the struct type, and stands for the struct of the row
pub struct_fits : (fs : List Bytes) (cs : List Column) (n : Nullability) (xs : List ScalarValue) (i : ℕ) (x : ScalarValue) → length fs ≡ length cs → AllZip (StandsAt i) cs xs → raw_view x ≡ raw_struct (raws_of (map raw_view xs)) → fits (raw_view x) (struct_ty (zipped fs (column_types cs)) n) ≡ true
unfolding fits
struct_fits fs cs n xs i x e h p = ap (λ r. fits r (struct_ty (zipped fs (column_types cs)) n)) p ∙ row_fits fs cs xs i e h

pub struct_stands : (fs : List Bytes) (cs : List Column) (n : Nullability) (xs : List ScalarValue) (i : ℕ) (x : ScalarValue) → length fs ≡ length cs → AllZip (StandsAt i) cs xs → raw_view x ≡ raw_struct (raws_of (map raw_view xs)) → seen (struct_ty (zipped fs (column_types cs)) n) x ≡ struct_val (row_members fs cs i)
unfolding valued
struct_stands fs cs n xs i x e h p = ap (λ r. valued r (struct_ty (zipped fs (column_types cs)) n)) p ∙ valued-struct (raws_of (map raw_view xs)) (zipped fs (column_types cs)) n (row_fits fs cs xs i e h) ∙ ap struct_val (row_stands fs cs xs i e h)

-- one type more
pub types_step : (cs : List Column) (ts us : List DType) (i : ℕ) (c : Column) (t : DType) → i < length cs → c ≡ get_or cs i c → type_view t ≡ c.ty → us ≡ ts ++ t ∷ [] → map type_view ts ≡ column_types (take i cs) → map type_view us ≡ column_types (take (i + 1) cs)
types_step cs ts us i c t h p q e before =
    let more = map_more (λ (d : Column). d.ty) cs i c h in
    let last : type_view t ≡ (get_or cs i c).ty = q ∙ ap (λ (d : Column). d.ty) p in
    ap (map type_view) e ∙ map-append type_view ts (t ∷ []) ∙ (λ j. before j ++ last j ∷ []) ∙ sym more
