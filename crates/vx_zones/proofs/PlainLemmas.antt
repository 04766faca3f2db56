-- Values of plain types and the raw values that stand for them, one by one and in lists.
use Rattle.std.proofs.Common.{◌≡◌, ℕ, zero, suc, ◌+◌, ◌<◌, ◌≤◌, refl, ap, sym, ◌∙◌, subst, Bool, true, false, ◌&&◌, List, [], ◌∷◌, map, take, drop, length, cond, Option, Some, None, option_map, arith}
use Rattle.std.specs.Prelude.{slice_index_or}
use Rattle.std.specs.List.{list_all}
use Rattle.std.specs.Option.{option_and_then}
use Rattle.std.proofs.lemmas.Option.{same_Some}
use Rattle.std.proofs.lemmas.List.{drop-map, take-map, take_all}
use Rattle.std.proofs.lemmas.Bool.{and_parts, and_from}
use Rattle.vx_dtype.specs.declared.Nullability.TheVariants.{Nullable}
use Rattle.vx_dtype.specs.declared.PType.TheVariants.{U64}
use Rattle.vx_dtype.specs.declared.Stat.{Stat}
use Rattle.vx_dtype.specs.declared.Stat.TheVariants.{Min, Max, NaNCount, NullCount}
use Rattle.vx_dtype.specs.Types.{Bytes, Ty, bool_ty, int_ty, text_ty, list_ty, struct_ty}
use Rattle.vx_dtype.specs.TypeRules.{is_plain, same_ptype, no_name_twice}
use Rattle.vx_dtype.specs.Equal.{ty_eq}
use Rattle.vx_dtype.specs.EqualLaws.{ptype_decides, ty_decides}
use Rattle.vx_dtype.specs.Values.{Raw, raw_null, raw_bool, raw_int, raw_text, Val, null_val, bool_val, int_val, text_val, valued, Typed, value_of}
use Rattle.vx_dtype.specs.Fits.{fits, val_fits, in_range}
use Rattle.vx_column.specs.ColumnParts.{keeps_values}
use Rattle.vx_column.specs.Columns.{Column, column, row_at, rows_fit, raws_fit, raw_rows}
use Rattle.vx_zones.specs.StatColumns.{raw_of, typed_at, typed_rows, column_stat, stat_run, HoldsValuesOf}
use Rattle.vx_zones.specs.LeafTypes.{nullable, plain_from}
use Rattle.vx_zones.specs.TypedColumns.{IsColumnOf}
use Rattle.vx_zones.specs.Zoning.{type_at, plain_only, scalars_fit, statistic_type, values_have}

-- the raw value of a plain value stands for it, and is one of the type
pub valued_back : (t : Ty) (v : Val) → is_plain t ≡ true → val_fits v t ≡ true → valued (raw_of v) t ≡ v
unfolding valued val_fits
valued_back (bool_ty n) null_val p h = refl
valued_back (bool_ty n) (bool_val b) p h = refl
valued_back (int_ty q n) null_val p h = refl
valued_back (int_ty q n) (int_val r i) p h =
    let same : r ≡ q = (ptype_decides r q).0 (and_parts (same_ptype r q) (in_range q i) h).0 in
    ap (λ s. int_val s i) (sym same)
valued_back (text_ty n) null_val p h = refl
valued_back (text_ty n) (text_val s) p h = refl
valued_back _ _ p h = let no : ⊥ = cc in absurd no

pub fits_back : (t : Ty) (v : Val) → is_plain t ≡ true → val_fits v t ≡ true → fits (raw_of v) t ≡ true
unfolding fits val_fits
fits_back (bool_ty n) null_val p h = h
fits_back (bool_ty n) (bool_val b) p h = refl
fits_back (int_ty q n) null_val p h = h
fits_back (int_ty q n) (int_val r i) p h = (and_parts (same_ptype r q) (in_range q i) h).1
fits_back (text_ty n) null_val p h = h
fits_back (text_ty n) (text_val s) p h = refl
fits_back _ _ p h = let no : ⊥ = cc in absurd no

-- what a raw value of a plain type stands for has this raw value
pub raw_back : (t : Ty) (x : Raw) → is_plain t ≡ true → fits x t ≡ true → raw_of (valued x t) ≡ x
unfolding fits valued
raw_back (bool_ty n) raw_null p h = refl
raw_back (bool_ty n) (raw_bool b) p h = refl
raw_back (int_ty q n) raw_null p h = refl
raw_back (int_ty q n) (raw_int i) p h = refl
raw_back (text_ty n) raw_null p h = refl
raw_back (text_ty n) (raw_text s) p h = refl
raw_back _ _ p h = let no : ⊥ = cc in absurd no

-- no name stands twice in a plain type
pub plain_names : (t : Ty) → is_plain t ≡ true → no_name_twice t ≡ true
unfolding no_name_twice
plain_names (bool_ty n) h = refl
plain_names (int_ty p n) h = refl
plain_names (text_ty n) h = refl
plain_names (list_ty e n) h = let no : ⊥ = cc (h) in absurd no
plain_names (struct_ty fs n) h = let no : ⊥ = cc (h) in absurd no

-- values of a plain type are no structs
pub plain_keeps : (t : Ty) → is_plain t ≡ true → keeps_values t ≡ true
plain_keeps (bool_ty n) h = refl
plain_keeps (int_ty p n) h = refl
plain_keeps (text_ty n) h = refl
plain_keeps (list_ty e n) h = refl
plain_keeps (struct_ty fs n) h = let no : ⊥ = cc (h) in absurd no

-- the values of a plain type beside the type are values, each one of the type
pub rows_back : (t : Ty) (vs : List Val) → is_plain t ≡ true → rows_fit t vs ≡ true → vs ≡ map value_of (map (typed_at t) vs)
rows_back t [] p h = refl
rows_back t (v ∷ vs) p h =
    let parts = and_parts (val_fits v t) (rows_fit t vs) h in
    let here = sym (valued_back t v p parts.0) in
    let rest = rows_back t vs p parts.1 in
    λ i. here i ∷ rest i

pub typed_fit : (t : Ty) (vs : List Val) → is_plain t ≡ true → rows_fit t vs ≡ true → scalars_fit (map (typed_at t) vs) ≡ true
typed_fit t [] p h = refl
typed_fit t (v ∷ vs) p h =
    let parts = and_parts (val_fits v t) (rows_fit t vs) h in
    and_from (fits (raw_of v) t) (scalars_fit (map (typed_at t) vs)) (fits_back t v p parts.0) (typed_fit t vs p parts.1)

-- whether they are of a type
pub typed_all : (t u : Ty) (v : Val) (vs : List Val) → ty_eq t u ≡ list_all (λ s. ty_eq s.ty u) (map (typed_at t) (v ∷ vs))
typed_all t u v [] = by-test (ty_eq t u)
  where
    by-test : (b : Bool) → b ≡ (b && true)
    by-test true = refl
    by-test false = refl
typed_all t u v (w ∷ vs) = by-test (ty_eq t u) (list_all (λ (s : Typed). ty_eq s.ty u) (map (typed_at t) (w ∷ vs))) (typed_all t u w vs)
  where
    by-test : (a b : Bool) → a ≡ b → a ≡ (a && b)
    by-test true b h = h
    by-test false b h = refl

-- what values of one plain type hold, and the values that this stands for beside the type
pub held_fit : (t : Ty) (ss : List Typed) → list_all (λ s. ty_eq s.ty t) ss ≡ true → scalars_fit ss ≡ true → raws_fit t (map (λ s. s.value) ss) ≡ true
held_fit t [] h k = refl
held_fit t (s ∷ ss) h k =
    let types = and_parts (ty_eq s.ty t) (list_all (λ (x : Typed). ty_eq x.ty t) ss) h in
    let fit = and_parts (fits s.value s.ty) (scalars_fit ss) k in
    and_from (fits s.value t) (raws_fit t (map (λ (x : Typed). x.value) ss)) (subst (λ (u : Ty). fits s.value u ≡ true) ((ty_decides s.ty t).0 types.0) fit.0)
    (held_fit t ss types.1 fit.1)

pub typed_back : (t : Ty) (ss : List Typed) → is_plain t ≡ true → list_all (λ s. ty_eq s.ty t) ss ≡ true → scalars_fit ss ≡ true
    → map (typed_at t) (raw_rows t (map (λ s. s.value) ss)) ≡ ss
typed_back t [] p h k = refl
typed_back t (s ∷ ss) p h k =
    let types = and_parts (ty_eq s.ty t) (list_all (λ (x : Typed). ty_eq x.ty t) ss) h in
    let fit = and_parts (fits s.value s.ty) (scalars_fit ss) k in
    let own : s.ty ≡ t = (ty_decides s.ty t).0 types.0 in
    let raw = raw_back t s.value p (subst (λ (u : Ty). fits s.value u ≡ true) own fit.0) in
    let rest = typed_back t ss p types.1 fit.1 in
    λ i. record { ty = sym own i; value = raw i } ∷ rest i

-- a value of a plain type that stands for a row of a column is the typed one there
pub typed_here : (c : Column) (i : ℕ) (s : Typed) → is_plain c.ty ≡ true → i < length c.rows → s.ty ≡ c.ty → value_of s ≡ row_at c i → fits s.value s.ty ≡ true
    → s ≡ slice_index_or (typed_rows c) i s
typed_here c i s p l e v f =
    let raw : raw_of (row_at c i) ≡ s.value = ap raw_of (sym v) ∙ raw_back s.ty s.value (ap is_plain e ∙ p) f in
    (λ k. record { ty = e k; value = sym raw k }) ∙ at-row c.rows i l
  where
    at-row : (vs : List Val) (j : ℕ) → j < length vs → typed_at c.ty (slice_index_or vs j null_val) ≡ slice_index_or (map (typed_at c.ty) vs) j s
    at-row [] j h = absurd (omega (arith, h))
    at-row (w ∷ vs) zero h = refl
    at-row (w ∷ vs) (suc j) h = at-row vs j (omega (arith, h))

-- the type of a statistic's values is plain
pub plain_statistic : (row : Ty) (path : List Bytes) (stat : Stat) (t : Ty) → Some t ≡ option_map nullable (option_and_then (statistic_type stat) (plain_from row path)) → is_plain t ≡ true
plain_statistic row path stat t e = by-type (type_at path row) e
  where
    kept : (u : Ty) → is_plain (nullable u) ≡ is_plain u
    kept (bool_ty n) = refl
    kept (int_ty p n) = refl
    kept (text_ty n) = refl
    kept (list_ty d n) = refl
    kept (struct_ty fs n) = refl

    by-stat : (kind : Stat) (u : Ty) → is_plain u ≡ true → Some t ≡ option_map nullable (statistic_type kind u) → is_plain t ≡ true
    by-stat Min u p h = ap is_plain (same_Some t (nullable u) h) ∙ kept u ∙ p
    by-stat Max u p h = ap is_plain (same_Some t (nullable u) h) ∙ kept u ∙ p
    by-stat NullCount u p h = ap is_plain (same_Some t (int_ty U64 Nullable) h)
    by-stat NaNCount u p h = absurd cc

    by-plain : (u : Ty) (b : Bool) → is_plain u ≡ b → Some t ≡ option_map nullable (option_and_then (statistic_type stat) (cond b (Some u) None)) → is_plain t ≡ true
    by-plain u true p h = by-stat stat u p h
    by-plain u false p h = absurd cc

    by-type : (o : Option Ty) → Some t ≡ option_map nullable (option_and_then (statistic_type stat) (option_and_then plain_only o)) → is_plain t ≡ true
    by-type None h = absurd cc
    by-type (Some u) h = by-plain u (is_plain u) refl h

-- a column of a plain type holds the values of the statistic that it makes
pub holds_own : (path : List Bytes) (stat : Stat) (c : Column) → is_plain c.ty ≡ true → rows_fit c.ty c.rows ≡ true → HoldsValuesOf (column_stat path stat c) c
holds_own path stat c p h = record { plain = p; typed = refl; rows = rows_back c.ty c.rows p h }

-- the rows of a run are the values of the statistic in the run
pub run_own : (path : List Bytes) (stat : Stat) (c : Column) (first count : ℕ) → column_stat path stat (column c.ty (take count (drop first c.rows))) ≡ stat_run first count (column_stat path stat c)
run_own path stat c first count =
    let rows : map (typed_at c.ty) (take count (drop first c.rows)) ≡ take count (drop first (map (typed_at c.ty) c.rows)) =
    sym (take-map (typed_at c.ty) count (drop first c.rows)) ∙ ap (take count) (sym (drop-map (typed_at c.ty) first c.rows)) in
    λ i. record { path = path; stat = stat; values = rows i }

-- the column of what values of one plain type hold is theirs
pub column_made : (t : Ty) (ss : List Typed) (xs : List Raw) (c : Column) → is_plain t ≡ true → list_all (λ s. ty_eq s.ty t) ss ≡ true → scalars_fit ss ≡ true
    → xs ≡ map (λ s. s.value) ss → c ≡ column t (raw_rows t xs) → IsColumnOf t ss (Some c)
column_made t ss xs c p h k e made =
    let values = ap typed_rows made ∙ ap (λ (ys : List Raw). map (typed_at t) (raw_rows t ys)) e ∙ typed_back t ss p h k in
    (h, k, ap (λ (d : Column). is_plain d.ty) made ∙ p, values)

-- whether values have the type of a statistic, by that type made nullable
pub values_by : (o : Option Ty) (t : Ty) (values : List Typed) → Some t ≡ option_map nullable o → list_all (λ s. ty_eq s.ty t) values ≡ values_have values o
values_by None t values h = absurd cc
values_by (Some w) t values h =
    let same : t ≡ nullable w = same_Some t (nullable w) h in
    ap (λ (u : Ty). list_all (λ (s : Typed). ty_eq s.ty u) values) same

-- no value has the type of a statistic that has none
pub none_by : (o : Option Ty) (values : List Typed) → None ≡ option_map nullable o → values_have values o ≡ false
none_by None values h = refl
none_by (Some w) values h = absurd cc

-- whether the values of a column that has some are of a type
pub some_typed : (t u : Ty) (vs : List Val) (ss : List Typed) → 0 < length vs → map (typed_at t) vs ≡ ss → ty_eq t u ≡ list_all (λ s. ty_eq s.ty u) ss
some_typed t u [] ss h e = absurd (omega (arith, h))
some_typed t u (v ∷ vs) ss h e = typed_all t u v vs ∙ ap (list_all (λ (s : Typed). ty_eq s.ty u)) e

-- the column with all its rows is itself
pub whole_run : (c : Column) (first count : ℕ) → first + count ≤ length c.rows → count ≡ length c.rows → c ≡ column c.ty (take count (drop first c.rows))
whole_run c first count h e =
    let none : first ≡ 0 = omega (arith, h, e) in
    let same : c.rows ≡ take count (drop first c.rows) =
    sym (ap (λ (k : ℕ). take count (drop k c.rows)) none ∙ take_all count c.rows (omega (arith, e))) in
    λ i. column c.ty (same i)
