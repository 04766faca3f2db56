-- The rows that the parts of a column hold, one by one.
use Rattle.std.proofs.Common.{◌≡◌, refl, ap, ◌∙◌, sym, ℕ, zero, suc, ◌+◌, ◌*◌, ◌<◌, ◌≤◌, max, Bool, true, false, not, ◌==◌, None, List, [], ◌∷◌, ◌++◌, map, length, take, get_or, arith, add-one}
use Rattle.std.specs.List.{All, AllZip, range_with_len}
use Rattle.std.proofs.Math.ListN.{replicate}
use Rattle.std.proofs.lemmas.List.{get_or-replicate, length-replicate, take_more}
use Rattle.std.proofs.lemmas.List.FromFn.{length-map-range_with_len, get_or-map-range_with_len}
use Rattle.vx_dtype.specs.Types.{Bytes, Ty, struct_ty, Fields, no_fields, field}
use Rattle.vx_dtype.specs.declared.Nullability.TheVariants.{NonNullable, Nullable}
use Rattle.vx_dtype.specs.TypeRules.{field_names, fields_of, with_nullability, depth_of, depth_below}
use Rattle.vx_dtype.specs.StructTypes.{field_types}
use Rattle.vx_dtype.specs.Zipped.{zipped}
use Rattle.vx_dtype.proofs.FieldsFrom.{length-field_types}
use Rattle.vx_dtype.specs.Values.{Val, null_val, bool_val, struct_val, valued, raw_struct}
use Rattle.vx_dtype.specs.Logic.{is_null3}
use Rattle.vx_dtype.specs.Fits.{fits, val_fits, members_fit}
use Rattle.vx_dtype.specs.RawViews.{raw_view, raws_of}
use Rattle.vx_dtype.specs.declared.values.ScalarValue.{ScalarValue}
use Rattle.vx_column.specs.RawParts.{is_raw_null}
use Rattle.vx_column.specs.Columns.{Column, column, row_at, rows_fit, values_fit, seen, seen_rows}
use Rattle.vx_column.specs.StructColumns.{column_types, all_have_rows, struct_row, row_members, StandsAt}
use Rattle.vx_column.specs.declared.cells.Cells.{Cells}
use Rattle.vx_column.specs.declared.cells.Cells.TheVariants.{Constant, Rows, Truths, Numbers, Columns, Masked}
use Rattle.vx_column.specs.TypeSizes.{size_of}
use Rattle.vx_column.specs.Sizes.{size_le}
use Rattle.vx_column.specs.Cells.{cell_rows, structs_of, all_rows_fit, AreFieldsOf, ArePartsOf}
use Rattle.vx_column.proofs.FitLemmas.{both_of, of_both, bytes_eq_self, fits_nullable, valued_with_nullability, rows_fit_seen, is_null3_valued}
use Rattle.vx_column.proofs.RowLemmas.{fits_at, seen_row, seen_rows_append, values_fit_more, rows_fit_repeated}
use Rattle.vx_column.proofs.StructLemmas.{struct_fits, struct_stands}
use Rattle.vx_column.proofs.TruthLemmas.{truth_rows_fit}
use Rattle.vx_column.proofs.NumberLemmas.{number_rows_fit}
use Rattle.vx_column.proofs.MaskedLemmas.{masked_fit, row_fits}

-- a constant has its value at each row
pub constant_row : (c : Column) (n i : ℕ) (v : Val) → replicate n v ≡ c.rows → i < length c.rows → v ≡ row_at c i
constant_row c n i v e h =
    let lengths : n ≡ length c.rows = sym (length-replicate n v) ∙ ap length e in
    let within : i < n = omega arith in
    sym (get_or-replicate n i v null_val within) ∙ ap (λ vs. get_or vs i null_val) e

-- there are as many values as rows, and each stands for its row
pub values_length : (c : Column) (xs : List ScalarValue) → seen_rows c.ty xs ≡ c.rows → length xs ≡ length c.rows
values_length c xs e = sym (length_seen c.ty xs) ∙ ap length e where
  length_seen : (t : Ty) (ys : List ScalarValue) → length (seen_rows t ys) ≡ length ys
  length_seen t [] = refl
  length_seen t (y ∷ ys) = ap (λ n. suc n) (length_seen t ys)

pub values_row : (c : Column) (xs : List ScalarValue) (i : ℕ) (x : ScalarValue) → seen_rows c.ty xs ≡ c.rows → i < length c.rows → x ≡ get_or xs i x → seen c.ty x ≡ row_at c i
values_row c xs i x e h p =
    let within : i < length xs = omega (arith, values_length c xs e) in
    ap (seen c.ty) p ∙ seen_row c.ty xs i x within ∙ ap (λ vs. get_or vs i null_val) e

pub values_fit_at : (c : Column) (xs : List ScalarValue) (i : ℕ) (x : ScalarValue) → seen_rows c.ty xs ≡ c.rows → values_fit c.ty xs ≡ true → i < length c.rows → x ≡ get_or xs i x → fits (raw_view x) c.ty ≡ true
values_fit_at c xs i x e f h p = fits_at c.ty xs i x f (omega (arith, values_length c xs e)) p

-- columns of fields have as many rows as the structs, and their values make the struct of the row
pub structs_length : (c : Column) (fs : List Bytes) (cs : List Column) (n : ℕ) → structs_of fs cs n ≡ c.rows → n ≡ length c.rows
structs_length c fs cs n e = sym (length-map-range_with_len (struct_row fs cs None) 0 n) ∙ ap length e

pub structs_row : (c : Column) (fs : List Bytes) (cs : List Column) (n i : ℕ) → structs_of fs cs n ≡ c.rows → i < length c.rows → struct_val (row_members fs cs i) ≡ row_at c i
structs_row c fs cs n i e h =
    let within : i < n = omega (arith, structs_length c fs cs n e) in
    sym (get_or-map-range_with_len (struct_row fs cs None) 0 n i i null_val within (omega arith)) ∙ ap (λ vs. get_or vs i null_val) e

-- where columns have this many rows, each has a row before
pub fields_have_rows : (n : ℕ) (cs : List Column) → all_have_rows n cs ≡ true → All (λ c. length c.rows ≡ n) cs
fields_have_rows n [] e k d q = absurd (omega arith)
fields_have_rows n (c ∷ cs) e zero d q =
    let first : (length c.rows == n) ≡ true = (both_of (length c.rows == n) (all_have_rows n cs) e).0 in
    grind (arith, first)
fields_have_rows n (c ∷ cs) e (suc k) d q = fields_have_rows n cs (both_of (length c.rows == n) (all_have_rows n cs) e).1 k d (omega arith)

-- names beside the types of fields are the fields
pub zipped_fields : (fs : Fields) → zipped (field_names fs) (field_types fs) ≡ fs
zipped_fields no_fields = refl
zipped_fields (field f t fs) = ap (field f t) (zipped_fields fs)

-- the struct type of columns of fields is the type of their names and types
pub fields_type : (t : Ty) (cs : List Column) (n : ℕ) → AreFieldsOf t cs n → struct_ty (zipped (field_names (fields_of t)) (column_types cs)) NonNullable ≡ t
fields_type t cs n h =
    ap (λ ts. struct_ty (zipped (field_names (fields_of t)) ts) NonNullable) h.types ∙ ap (λ fs. struct_ty fs NonNullable) (zipped_fields (fields_of t)) ∙ sym h.shape

length-columns : (cs : List Column) → length (column_types cs) ≡ length cs
length-columns [] = refl
length-columns (c ∷ cs) = ap (λ n. suc n) (length-columns cs)

pub fields_number : (t : Ty) (cs : List Column) (n : ℕ) → AreFieldsOf t cs n → length (field_names (fields_of t)) ≡ length cs
fields_number t cs n h = sym (length-field_types (fields_of t)) ∙ ap length (sym h.types) ∙ length-columns cs

-- the size of the greatest of the columns' types
abbrev pub deepest : List Column → ℕ
deepest [] = 0
deepest (c ∷ cs) = max (size_of c.ty) (deepest cs)

pub size_le-deepest : (cs : List Column) (k : ℕ) (d : Column) → k < length cs → size_of (get_or cs k d).ty ≤ deepest cs
size_le-deepest [] k d h = absurd (omega arith)
size_le-deepest (c ∷ cs) zero d h = omega arith
size_le-deepest (c ∷ cs) (suc k) d h = omega (arith, size_le-deepest cs k d (omega arith))

deepest_below : (cs : List Column) (fs : Fields) → column_types cs ≡ field_types fs → deepest cs ≤ 2 * depth_below fs + 1
unfolding depth_of
deepest_below [] fs e = omega arith
deepest_below (c ∷ cs) no_fields e = absurd cc
deepest_below (c ∷ cs) (field f t fs) e =
    let here : c.ty ≡ t = cc in
    let rest : column_types cs ≡ field_types fs = cc in
    omega (arith, size_le c.ty, ap depth_of here, deepest_below cs fs rest)

pub deepest_lt : (t : Ty) (cs : List Column) (n : ℕ) → AreFieldsOf t cs n → deepest cs < size_of t
unfolding depth_of
deepest_lt t cs n h = omega (arith, deepest_below cs (fields_of t) h.types, ap depth_of h.shape)

-- another nullability changes no value that stands for a row
pub values_fit_nullable : (t : Ty) (xs : List ScalarValue) → values_fit t xs ≡ true → values_fit (with_nullability t Nullable) xs ≡ true
values_fit_nullable t [] e = refl
values_fit_nullable t (x ∷ xs) e =
    let h = both_of (fits (raw_view x) t) (values_fit t xs) e in
    of_both _ _ (fits_nullable (raw_view x) t h.0) (values_fit_nullable t xs h.1)

-- one row more
pub made_more : (c : Column) (ms ns : List ScalarValue) (i : ℕ) (m : ScalarValue) → i < length c.rows → StandsAt i c m → ns ≡ ms ++ m ∷ [] → (values_fit c.ty ms ≡ true) × (seen_rows c.ty ms ≡ take i c.rows) → (values_fit c.ty ns ≡ true) × (seen_rows c.ty ns ≡ take (i + 1) c.rows)
made_more c ms ns i m h s e before =
    let more : take (i + 1) c.rows ≡ take i c.rows ++ row_at c i ∷ [] = take_more c.rows i null_val h in
    (rw e (values_fit_more c.ty ms m before.0 s.0), rw (e, seen_rows_append c.ty ms m, before.1, s.1) (sym more))

-- whether the value that is kept at a row is null
not_not : (b : Bool) → b ≡ not (not b)
not_not true = refl
not_not false = refl

pub valid_kept : (c : Column) (i : ℕ) (x : ScalarValue) (b : Bool) → fits (raw_view x) c.ty ≡ true → seen c.ty x ≡ row_at c i → b ≡ is_raw_null (raw_view x) → is_null3 (row_at c i) ≡ bool_val (not (not b))
valid_kept c i x b f s e = ap is_null3 (sym s) ∙ is_null3_valued (raw_view x) c.ty f ∙ ap bool_val (sym e ∙ not_not b)

-- a clone of the value that is kept at a row stands for it
pub clone_stands : (c : Column) (i : ℕ) (x y : ScalarValue) → fits (raw_view x) c.ty ≡ true → seen c.ty x ≡ row_at c i → raw_view y ≡ raw_view x → StandsAt i c y
clone_stands c i x y f s e = (ap (λ r. fits r c.ty) e ∙ f, ap (λ r. valued r c.ty) e ∙ s)

-- a struct of values that stand for the fields' rows stands for the row
pub struct_stands_at : (c : Column) (i : ℕ) (cs : List Column) (n : ℕ) (xs : List ScalarValue) (x : ScalarValue) → AreFieldsOf c.ty cs n → structs_of (field_names (fields_of c.ty)) cs n ≡ c.rows → i < length c.rows → AllZip (StandsAt i) cs xs → raw_view x ≡ raw_struct (raws_of (map raw_view xs)) → StandsAt i c x
struct_stands_at c i cs n xs x h r w s e =
    let number = fields_number c.ty cs n h in
    let whole = fields_type c.ty cs n h in
    let fit = struct_fits (field_names (fields_of c.ty)) cs NonNullable xs i x number s e in
    let value = struct_stands (field_names (fields_of c.ty)) cs NonNullable xs i x number s e in
    (ap (fits (raw_view x)) (sym whole) ∙ fit, ap (valued (raw_view x)) (sym whole) ∙ value ∙ structs_row c (field_names (fields_of c.ty)) cs n i r w)

-- the parts of a column whose type is made nullable
pub nullable_constant : (c : Column) (d : Ty) (n : ℕ) (x y : ScalarValue) → d ≡ with_nullability c.ty Nullable → raw_view y ≡ raw_view x → replicate n (seen c.ty x) ≡ c.rows → column d (replicate n (seen d y)) ≡ column (with_nullability c.ty Nullable) c.rows
nullable_constant c d n x y e v r =
    let value : seen d y ≡ seen c.ty x = (λ j. valued (v j) (e j)) ∙ valued_with_nullability (raw_view x) c.ty Nullable in
    λ j. column (e j) ((ap (replicate n) value ∙ r) j)

-- a column's rows are of its type where those of all columns are
pub column_fits : (cs : List Column) (k : ℕ) (d : Column) → all_rows_fit cs ≡ true → k < length cs → rows_fit (get_or cs k d).ty (get_or cs k d).rows ≡ true
column_fits [] k d e h = absurd (omega arith)
column_fits (c ∷ cs) zero d e h = (both_of (rows_fit c.ty c.rows) (all_rows_fit cs) e).0
column_fits (c ∷ cs) (suc k) d e h = column_fits cs k d (both_of (rows_fit c.ty c.rows) (all_rows_fit cs) e).1 (omega arith)

fit_suc : (cs : List Column) (i : ℕ) (c : Column) → i < length cs → c ≡ get_or cs i c → all_rows_fit (take i cs) ≡ true → rows_fit c.ty c.rows ≡ true → all_rows_fit (take (suc i) cs) ≡ true
fit_suc [] i c h p e f = absurd (omega arith)
fit_suc (x ∷ cs) zero c h p e f = of_both _ _ (ap (λ (d : Column). rows_fit d.ty d.rows) (sym p) ∙ f) refl
fit_suc (x ∷ cs) (suc i) c h p e f =
    let both = both_of (rows_fit x.ty x.rows) (all_rows_fit (take i cs)) e in
    of_both _ _ both.0 (fit_suc cs i c (omega arith) p both.1 f)

pub all_fit_more : (cs : List Column) (i : ℕ) (c : Column) → i < length cs → c ≡ get_or cs i c → all_rows_fit (take i cs) ≡ true → rows_fit c.ty c.rows ≡ true → all_rows_fit (take (i + 1) cs) ≡ true
all_fit_more cs i c h p e f = rw add-one (fit_suc cs i c h p e f)

-- so the members of a row of columns of fields are of the fields' types
members_fit_row : (fs : Fields) (cs : List Column) (n i : ℕ) → column_types cs ≡ field_types fs → all_have_rows n cs ≡ true → all_rows_fit cs ≡ true → i < n → members_fit (row_members (field_names fs) cs i) fs ≡ true
unfolding val_fits
members_fit_row no_fields [] n i e h f w = refl
members_fit_row no_fields (c ∷ cs) n i e h f w = absurd cc
members_fit_row (field g t fs) [] n i e h f w = absurd cc
members_fit_row (field g t fs) (c ∷ cs) n i e h f w =
    let here : c.ty ≡ t = cc in
    let rest : column_types cs ≡ field_types fs = cc in
    let lengths = both_of (length c.rows == n) (all_have_rows n cs) h in
    let fit = both_of (rows_fit c.ty c.rows) (all_rows_fit cs) f in
    let first : (length c.rows == n) ≡ true = lengths.0 in
    let within : i < length c.rows = grind (arith, first, w) in
    let own : val_fits (row_at c i) t ≡ true = ap (val_fits (row_at c i)) (sym here) ∙ row_fits c.ty c.rows i fit.0 within in
    of_both _ _ (bytes_eq_self g) (of_both _ _ own (members_fit_row fs cs n i rest lengths.1 fit.1 w))

made_fit : (t : Ty) (row : ℕ → Val) (n a m : ℕ) → a + m ≤ n → ((i : ℕ) → i < n → val_fits (row i) t ≡ true) → rows_fit t (map row (range_with_len a m)) ≡ true
made_fit t row n a zero h f = refl
made_fit t row n a (suc m) h f = of_both _ _ (f a (omega arith)) (made_fit t row n (a + 1) m (omega arith) f)

struct_row_fits : (t : Ty) (cs : List Column) (n : ℕ) → AreFieldsOf t cs n → (i : ℕ) → i < n → val_fits (struct_row (field_names (fields_of t)) cs None i) t ≡ true
unfolding val_fits
struct_row_fits t cs n h i w = ap (val_fits (struct_val (row_members (field_names (fields_of t)) cs i))) h.shape ∙ members_fit_row (fields_of t) cs n i h.types h.lengths h.fit w

pub cells_fit : (t : Ty) (k : Cells) → ArePartsOf t k → rows_fit t (cell_rows t k) ≡ true
cells_fit t (Constant x n) h = rows_fit_repeated t n x h
cells_fit t (Rows xs) h = rows_fit_seen t xs.value.items h.fit
cells_fit t (Truths ts) h = truth_rows_fit t ts.value h
cells_fit t (Numbers ns) h = number_rows_fit t ns.value h
cells_fit t (Masked c ns) h = masked_fit t c.value ns.value h
cells_fit t (Columns cs n) h = made_fit t (struct_row (field_names (fields_of t)) cs.value.items None) n 0 n (omega arith) (struct_row_fits t cs.value.items n h)
