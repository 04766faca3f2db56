-- Structs that stand in rows are those of the columns of their fields.
use Rattle.std.proofs.Common.{◌≡◌, refl, ap, ◌∙◌, sym, subst, ℕ, zero, suc, ◌+◌, ◌<◌, ◌≤◌, Bool, true, false, ◌&&◌, ◌==◌, None, List, [], ◌∷◌, ◌++◌, map, length, take, get_or, arith}
use Rattle.std.proofs.lemmas.List.{get_or-map, length-map, take_more}
use Rattle.std.proofs.lemmas.List.FromFn.{fill_by_all}
use Rattle.vx_dtype.specs.Types.{Ty, struct_ty, Fields, no_fields, field}
use Rattle.vx_dtype.specs.declared.Nullability.{Nullability}
use Rattle.vx_dtype.specs.declared.Nullability.TheVariants.{NonNullable, Nullable}
use Rattle.vx_dtype.specs.TypeRules.{field_names, fields_of, depth_of, depth_below, no_name_twice, no_name_twice_below}
use Rattle.vx_dtype.specs.StructTypes.{field_types}
use Rattle.vx_dtype.specs.Values.{Raw, raw_null, raw_struct, Raws, no_raws, raw, Val, null_val, struct_val, no_members, member, valued, members_valued}
use Rattle.vx_dtype.specs.Fits.{fits, fields_fit}
use Rattle.vx_dtype.specs.RawViews.{raw_view, raws_of}
use Rattle.vx_dtype.specs.TypeViews.{type_view}
use Rattle.vx_dtype.specs.declared.types.DType.{DType}
use Rattle.vx_dtype.specs.declared.values.ScalarValue.{ScalarValue}
use Rattle.vx_dtype.proofs.ValuedLemmas.{val_fits_valued, valued-struct}
use Rattle.vx_column.specs.Columns.{Column, column, rows_fit, raws_fit, raw_rows, values_fit, seen_rows}
use Rattle.vx_column.specs.StructColumns.{column_types, all_have_rows, row_members, struct_row}
use Rattle.vx_column.specs.Cells.{structs_of, all_rows_fit, AreFieldsOf, masks_apart}
use Rattle.vx_column.specs.Splits.{parts_in, raws_length, raws_at, rest_of, parts_at, field_columns, row_parts}
use Rattle.vx_column.proofs.FitLemmas.{both_of, of_both}

-- ---- a value of a struct type that isn't nullable has a part for each field
pub parts_fit : (x : Raw) (fs : Fields) → fits x (struct_ty fs NonNullable) ≡ true → fields_fit (parts_in x) fs ≡ true
unfolding fits
parts_fit raw_null fs h = absurd cc
parts_fit (raw_struct xs) fs h = h
parts_fit _ fs h = absurd cc

stands_for_parts : (x : Raw) (fs : Fields) → fits x (struct_ty fs NonNullable) ≡ true → valued x (struct_ty fs NonNullable) ≡ struct_val (members_valued (parts_in x) fs)
unfolding fits
stands_for_parts raw_null fs h = absurd cc
stands_for_parts (raw_struct xs) fs h = valued-struct xs fs NonNullable h
stands_for_parts _ fs h = absurd cc

-- whether each of the parts is one of its field's type
abbrev all_parts_fit : Fields → List Raws → Bool
all_parts_fit fs [] = true
all_parts_fit fs (r ∷ rs) = fields_fit r fs && all_parts_fit fs rs

row_parts_fit : (fs : Fields) (xs : List ScalarValue) → values_fit (struct_ty fs NonNullable) xs ≡ true → all_parts_fit fs (row_parts xs) ≡ true
row_parts_fit fs [] h = refl
row_parts_fit fs (x ∷ xs) h =
    let both = both_of (fits (raw_view x) (struct_ty fs NonNullable)) (values_fit (struct_ty fs NonNullable) xs) h in
    of_both _ _ (parts_fit (raw_view x) fs both.0) (row_parts_fit fs xs both.1)

-- ---- the first part, and the rest
first_fits : (r : Raws) (f : _) (t : Ty) (fs : Fields) → fields_fit r (field f t fs) ≡ true → fits (raws_at r 0) t ≡ true
unfolding fits
first_fits no_raws f t fs h = absurd cc
first_fits (raw x xs) f t fs h = (both_of (fits x t) (fields_fit xs fs) h).0

rest_fits : (r : Raws) (f : _) (t : Ty) (fs : Fields) → fields_fit r (field f t fs) ≡ true → fields_fit (rest_of r) fs ≡ true
unfolding fits
rest_fits no_raws f t fs h = absurd cc
rest_fits (raw x xs) f t fs h = (both_of (fits x t) (fields_fit xs fs) h).1

firsts_fit : (rs : List Raws) (f : _) (t : Ty) (fs : Fields) → all_parts_fit (field f t fs) rs ≡ true → raws_fit t (parts_at 0 rs) ≡ true
firsts_fit [] f t fs h = refl
firsts_fit (r ∷ rs) f t fs h =
    let both = both_of (fields_fit r (field f t fs)) (all_parts_fit (field f t fs) rs) h in
    of_both _ _ (first_fits r f t fs both.0) (firsts_fit rs f t fs both.1)

rests_fit : (rs : List Raws) (f : _) (t : Ty) (fs : Fields) → all_parts_fit (field f t fs) rs ≡ true → all_parts_fit fs (map rest_of rs) ≡ true
rests_fit [] f t fs h = refl
rests_fit (r ∷ rs) f t fs h =
    let both = both_of (fields_fit r (field f t fs)) (all_parts_fit (field f t fs) rs) h in
    of_both _ _ (rest_fits r f t fs both.0) (rests_fit rs f t fs both.1)

-- ---- the columns are those of the fields, with a row for each struct
types_are : (fs : Fields) (rs : List Raws) → column_types (field_columns fs rs) ≡ field_types fs
types_are no_fields rs = refl
types_are (field f t fs) rs = ap (λ ts. t ∷ ts) (types_are fs (map rest_of rs))

same_number : (m n : ℕ) → m ≡ n → (m == n) ≡ true
same_number m n e = grind (arith, e)

lengths_are : (fs : Fields) (rs : List Raws) (n : ℕ) → length rs ≡ n → all_have_rows n (field_columns fs rs) ≡ true
lengths_are no_fields rs n e = refl
lengths_are (field f t fs) rs n e =
    of_both _ _
    (same_number _ n (length-map (parts_at 0 rs) (λ x. valued x t) ∙ length-map rs (λ r. raws_at r 0) ∙ e))
    (lengths_are fs (map rest_of rs) n (length-map rs rest_of ∙ e))

rows_fit_raws : (t : Ty) (xs : List Raw) → raws_fit t xs ≡ true → rows_fit t (raw_rows t xs) ≡ true
rows_fit_raws t [] h = refl
rows_fit_raws t (x ∷ xs) h =
    let both = both_of (fits x t) (raws_fit t xs) h in
    of_both _ _ (val_fits_valued x t both.0) (rows_fit_raws t xs both.1)

rows_are_fit : (fs : Fields) (rs : List Raws) → all_parts_fit fs rs ≡ true → all_rows_fit (field_columns fs rs) ≡ true
rows_are_fit no_fields rs h = refl
rows_are_fit (field f t fs) rs h =
    of_both _ _ (rows_fit_raws t (parts_at 0 rs) (firsts_fit rs f t fs h)) (rows_are_fit fs (map rest_of rs) (rests_fit rs f t fs h))

pub split_fields : (fs : Fields) (xs : List ScalarValue) → values_fit (struct_ty fs NonNullable) xs ≡ true
    → AreFieldsOf (struct_ty fs NonNullable) (field_columns fs (row_parts xs)) (length xs)
split_fields fs xs h = record {
  shape = refl;
  types = types_are fs (row_parts xs);
  lengths = lengths_are fs (row_parts xs) (length xs) (length-map xs (λ x. parts_in (raw_view x)));
  fit = rows_are_fit fs (row_parts xs) (row_parts_fit fs xs h);
}

-- ---- the struct of the columns' values at a row is the struct there
no_members_of : (r : Raws) → members_valued r no_fields ≡ no_members
unfolding valued
no_members_of no_raws = refl
no_members_of (raw x xs) = refl

members_first : (r : Raws) (f : _) (t : Ty) (fs : Fields) → fields_fit r (field f t fs) ≡ true
    → members_valued r (field f t fs) ≡ member f (valued (raws_at r 0) t) (members_valued (rest_of r) fs)
unfolding fits valued
members_first no_raws f t fs h = absurd cc
members_first (raw x xs) f t fs h = refl

part_fit : (fs : Fields) (rs : List Raws) (i : ℕ) → i < length rs → all_parts_fit fs rs ≡ true → fields_fit (get_or rs i no_raws) fs ≡ true
part_fit fs [] i w h = absurd (omega arith)
part_fit fs (r ∷ rs) zero w h = (both_of (fields_fit r fs) (all_parts_fit fs rs) h).0
part_fit fs (r ∷ rs) (suc i) w h = part_fit fs rs i (omega arith) (both_of (fields_fit r fs) (all_parts_fit fs rs) h).1

members_are : (fs : Fields) (rs : List Raws) (i : ℕ) → i < length rs → all_parts_fit fs rs ≡ true
    → members_valued (get_or rs i no_raws) fs ≡ row_members (field_names fs) (field_columns fs rs) i
members_are no_fields rs i w h = no_members_of (get_or rs i no_raws)
members_are (field f t fs) rs i w h =
    let seconds = length-map rs rest_of in
    let firsts = length-map rs (λ r. raws_at r 0) in
    let here : get_or (map (λ x. valued x t) (parts_at 0 rs)) i null_val ≡ valued (raws_at (get_or rs i no_raws) 0) t =
    get_or-map (λ x. valued x t) (parts_at 0 rs) i raw_null null_val (omega arith)
    ∙ ap (λ x. valued x t) (get_or-map (λ r. raws_at r 0) rs i no_raws raw_null w) in
    let below = members_are fs (map rest_of rs) i (omega arith) (rests_fit rs f t fs h) in
    members_first (get_or rs i no_raws) f t fs (part_fit (field f t fs) rs i w h)
    ∙ (λ j. member f (sym here j) (members_valued (sym (get_or-map rest_of rs i no_raws no_raws w) j) fs))
    ∙ ap (member f (get_or (map (λ x. valued x t) (parts_at 0 rs)) i null_val)) below

structs_are : (fs : Fields) (rs : List Raws) → all_parts_fit fs rs ≡ true
    → structs_of (field_names fs) (field_columns fs rs) (length rs) ≡ map (λ r. struct_val (members_valued r fs)) rs
structs_are fs rs h =
    let made : Raws → Val = λ r. struct_val (members_valued r fs) in
    sym (fill_by_all (struct_row (field_names fs) (field_columns fs rs) None) (map made rs) (length rs) null_val (length-map rs made)
    (λ i w. get_or-map made rs i no_raws null_val w ∙ ap struct_val (members_are fs rs i w h)))

rows_are : (fs : Fields) (xs : List ScalarValue) → values_fit (struct_ty fs NonNullable) xs ≡ true
    → map (λ r. struct_val (members_valued r fs)) (row_parts xs) ≡ seen_rows (struct_ty fs NonNullable) xs
rows_are fs [] h = refl
rows_are fs (x ∷ xs) h =
    let both = both_of (fits (raw_view x) (struct_ty fs NonNullable)) (values_fit (struct_ty fs NonNullable) xs) h in
    λ j. sym (stands_for_parts (raw_view x) fs both.0) j ∷ rows_are fs xs both.1 j

pub split_rows : (fs : Fields) (xs : List ScalarValue) → values_fit (struct_ty fs NonNullable) xs ≡ true
    → structs_of (field_names fs) (field_columns fs (row_parts xs)) (length xs) ≡ seen_rows (struct_ty fs NonNullable) xs
split_rows fs xs h =
    ap (structs_of (field_names fs) (field_columns fs (row_parts xs))) (sym (length-map xs (λ x. parts_in (raw_view x))))
    ∙ structs_are fs (row_parts xs) (row_parts_fit fs xs h)
    ∙ rows_are fs xs h

-- ---- field by field
parts_next : (i : ℕ) (rs : List Raws) → parts_at i (map rest_of rs) ≡ parts_at (suc i) rs
parts_next i [] = refl
parts_next i (no_raws ∷ rs) = ap (λ xs. raw_null ∷ xs) (parts_next i rs)
parts_next i (raw x xs ∷ rs) = ap (λ ys. raws_at xs i ∷ ys) (parts_next i rs)

pub column_at : (fs : Fields) (rs : List Raws) (i : ℕ) (d : Column) (u : Ty) → i < length (field_types fs)
    → get_or (field_columns fs rs) i d ≡ column (get_or (field_types fs) i u) (raw_rows (get_or (field_types fs) i u) (parts_at i rs))
column_at no_fields rs i d u w = absurd (omega arith)
column_at (field f t fs) rs zero d u w = refl
column_at (field f t fs) rs (suc i) d u w =
    column_at fs (map rest_of rs) i d u (omega arith)
    ∙ ap (λ xs. column (get_or (field_types fs) i u) (raw_rows (get_or (field_types fs) i u) xs)) (parts_next i rs)

pub length-field_columns : (fs : Fields) (rs : List Raws) → length (field_columns fs rs) ≡ length (field_types fs)
length-field_columns no_fields rs = refl
length-field_columns (field f t fs) rs = ap (λ n. suc n) (length-field_columns fs (map rest_of rs))

part_fits : (r : Raws) (fs : Fields) (i : ℕ) (u : Ty) → i < length (field_types fs) → fields_fit r fs ≡ true → fits (raws_at r i) (get_or (field_types fs) i u) ≡ true
unfolding fits
part_fits r no_fields i u w h = absurd (omega arith)
part_fits no_raws (field f t fs) i u w h = absurd cc
part_fits (raw x xs) (field f t fs) zero u w h = (both_of (fits x t) (fields_fit xs fs) h).0
part_fits (raw x xs) (field f t fs) (suc i) u w h = part_fits xs fs i u (omega arith) (both_of (fits x t) (fields_fit xs fs) h).1

all_fit_at : (rs : List Raws) (fs : Fields) (i : ℕ) (u : Ty) → i < length (field_types fs) → all_parts_fit fs rs ≡ true → raws_fit (get_or (field_types fs) i u) (parts_at i rs) ≡ true
all_fit_at [] fs i u w h = refl
all_fit_at (r ∷ rs) fs i u w h =
    let both = both_of (fields_fit r fs) (all_parts_fit fs rs) h in
    of_both _ _ (part_fits r fs i u w both.0) (all_fit_at rs fs i u w both.1)

pub parts_fit_at : (fs : Fields) (xs : List ScalarValue) (i : ℕ) (u : Ty) → i < length (field_types fs) → values_fit (struct_ty fs NonNullable) xs ≡ true
    → raws_fit (get_or (field_types fs) i u) (parts_at i (row_parts xs)) ≡ true
parts_fit_at fs xs i u w h = all_fit_at (row_parts xs) fs i u w (row_parts_fit fs xs h)

as_many_parts : (r : Raws) (fs : Fields) → fields_fit r fs ≡ true → raws_length r ≡ length (field_types fs)
unfolding fits
as_many_parts no_raws no_fields h = refl
as_many_parts no_raws (field f t fs) h = absurd cc
as_many_parts (raw x xs) no_fields h = absurd cc
as_many_parts (raw x xs) (field f t fs) h = ap (λ n. suc n) (as_many_parts xs fs (both_of (fits x t) (fields_fit xs fs) h).1)

pub part_number : (x : Raw) (fs : Fields) → fits x (struct_ty fs NonNullable) ≡ true → raws_length (parts_in x) ≡ length (field_types fs)
part_number x fs h = as_many_parts (parts_in x) fs (parts_fit x fs h)

-- ---- of the fields' types, no struct has a name twice, and none is as deep
pub names_at : (fs : Fields) (i : ℕ) (u : Ty) → i < length (field_types fs) → no_name_twice_below fs ≡ true → no_name_twice (get_or (field_types fs) i u) ≡ true
unfolding no_name_twice
names_at no_fields i u w h = absurd (omega arith)
names_at (field f t fs) zero u w h = (both_of (no_name_twice t) (no_name_twice_below fs) h).0
names_at (field f t fs) (suc i) u w h = names_at fs i u (omega arith) (both_of (no_name_twice t) (no_name_twice_below fs) h).1

pub depth_at : (fs : Fields) (i : ℕ) (u : Ty) → i < length (field_types fs) → depth_of (get_or (field_types fs) i u) ≤ depth_below fs
unfolding depth_of
depth_at no_fields i u w = absurd (omega arith)
depth_at (field f t fs) zero u w = omega arith
depth_at (field f t fs) (suc i) u w = omega (arith, depth_at fs i u (omega arith))

-- ---- the parts of a struct of the code
pub length-raws_of : {X : Type 0} (f : X → Raw) (xs : List X) → raws_length (raws_of (map f xs)) ≡ length xs
length-raws_of f [] = refl
length-raws_of f (x ∷ xs) = ap (λ n. suc n) (length-raws_of f xs)

pub raws_of-at : {X : Type 0} (f : X → Raw) (xs : List X) (i : ℕ) (d : X) → i < length xs → raws_at (raws_of (map f xs)) i ≡ f (get_or xs i d)
raws_of-at f [] i d h = absurd (omega arith)
raws_of-at f (x ∷ xs) zero d h = refl
raws_of-at f (x ∷ xs) (suc i) d h = raws_of-at f xs i d (omega arith)

-- ---- one field more
pub type_at : (fs : Fields) (ds : List DType) (i : ℕ) (d e : DType) → map type_view ds ≡ field_types fs → i < length ds → d ≡ get_or ds i d → type_view e ≡ type_view d
    → type_view e ≡ get_or (field_types fs) i (type_view d)
type_at fs ds i d e s h p c = c ∙ ap type_view p ∙ sym (get_or-map type_view ds i d (type_view d) h) ∙ ap (λ ts. get_or ts i (type_view d)) s

pub types_number : (fs : Fields) (ds : List DType) → map type_view ds ≡ field_types fs → length ds ≡ length (field_types fs)
types_number fs ds s = sym (length-map ds type_view) ∙ ap length s

pub column_more : (fs : Fields) (rs : List Raws) (i : ℕ) (t u : Ty) (xs : List ScalarValue) (c : Column) (cs ds : List Column) → i < length (field_types fs)
    → t ≡ get_or (field_types fs) i u → map raw_view xs ≡ parts_at i rs → c ≡ column t (seen_rows t xs) → ds ≡ cs ++ c ∷ []
    → cs ≡ take i (field_columns fs rs) → ds ≡ take (i + 1) (field_columns fs rs)
column_more fs rs i t u xs c cs ds h k v e more before =
    let here : get_or (field_columns fs rs) i c ≡ c =
    column_at fs rs i c u h ∙ (λ j. column (sym k j) (raw_rows (sym k j) (sym v j))) ∙ sym e in
    more ∙ (λ j. before j ++ sym here j ∷ []) ∙ sym (take_more (field_columns fs rs) i c (omega (arith, length-field_columns fs rs, h)))

-- ---- the fields of a struct type that isn't nullable
pub whole_struct : (t : Ty) (fs : Fields) (n : Nullability) → t ≡ struct_ty fs n → masks_apart t ≡ true → t ≡ struct_ty fs NonNullable
whole_struct t fs NonNullable e h = e
whole_struct t fs Nullable e h = absurd (let same : false ≡ true = sym (ap masks_apart e) ∙ h in cc)

pub names_below : (t : Ty) (fs : Fields) → t ≡ struct_ty fs NonNullable → no_name_twice t ≡ true → no_name_twice_below fs ≡ true
unfolding no_name_twice
names_below t fs e h = (both_of _ (no_name_twice_below fs) (ap no_name_twice (sym e) ∙ h)).1

pub value_fits_at : (t : Ty) (xs : List ScalarValue) (i : ℕ) (d : ScalarValue) → values_fit t xs ≡ true → i < length xs → fits (raw_view (get_or xs i d)) t ≡ true
value_fits_at t [] i d e h = absurd (omega arith)
value_fits_at t (x ∷ xs) zero d e h = (both_of (fits (raw_view x) t) (values_fit t xs) e).0
value_fits_at t (x ∷ xs) (suc i) d e h = value_fits_at t xs i d (both_of (fits (raw_view x) t) (values_fit t xs) e).1 (omega arith)

-- so the columns of the fields are those of the structs
pub split_column : (t : Ty) (fs : Fields) (xs : List ScalarValue) (cs : List Column) → t ≡ struct_ty fs NonNullable → values_fit t xs ≡ true → cs ≡ field_columns fs (row_parts xs)
    → AreFieldsOf t cs (length xs) × (structs_of (field_names (fields_of t)) cs (length xs) ≡ seen_rows t xs)
split_column t fs xs cs e h p =
    let fit : values_fit (struct_ty fs NonNullable) xs ≡ true = ap (λ u. values_fit u xs) (sym e) ∙ h in (
      subst (λ u. AreFieldsOf u cs (length xs)) (sym e) (subst (λ ds. AreFieldsOf (struct_ty fs NonNullable) ds (length xs)) (sym p) (split_fields fs xs fit)),
      (λ j. structs_of (field_names (fields_of (e j))) (p j) (length xs)) ∙ split_rows fs xs fit ∙ ap (λ u. seen_rows u xs) (sym e),
    )
