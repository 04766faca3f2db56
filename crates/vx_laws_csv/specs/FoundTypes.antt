-- The type of a column that is found from its cells: the least that takes each of them.
use Rattle.std.specs.Prelude.{ℕ, ◌+◌, Bool, true, false, ◌&&◌, cond, List, [], ◌∷◌, map}
use Rattle.std.specs.List.{list_all}
use Rattle.std.specs.Str.{bytes_eq}
use Rattle.vx_dtype.specs.declared.PType.TheVariants.{I64}
use Rattle.vx_dtype.specs.declared.Nullability.{Nullability}
use Rattle.vx_dtype.specs.declared.Nullability.TheVariants.{NonNullable, Nullable}
use Rattle.vx_dtype.specs.Types.{Bytes, Ty, bool_ty, int_ty, text_ty, list_ty, struct_ty}
use Rattle.vx_dtype.specs.TypeRules.{nullability_of, is_nullable, same_ptype}
use Rattle.vx_laws_csv.specs.Cells.{takes, cell_at}

-- whether each cell is the null text, and whether each is a value of a type
abbrev pub all_null : Bytes → List Bytes → Bool
all_null null cells = list_all (λ s. bytes_eq s null) cells

abbrev pub all_taken : Bytes → Ty → List Bytes → Bool
all_taken null t cells = list_all (takes null t) cells

-- `i64` where each cell that isn't null is a whole number in its range, `bool` where each is true or false, else `utf8`; cells that are all null, or none at
-- all, are of `utf8` too
abbrev pub found_kind : Bytes → List Bytes → Nullability → Ty
found_kind null cells n =
    cond (all_null null cells) (text_ty n)
    (cond (all_taken null (int_ty I64 Nullable) cells) (int_ty I64 n)
    (cond (all_taken null (bool_ty Nullable) cells) (bool_ty n) (text_ty n)))

-- nullable where some cell is the null text
abbrev pub found_nullability : Bytes → List Bytes → Nullability
found_nullability null cells = cond (all_taken null (text_ty NonNullable) cells) NonNullable Nullable

abbrev pub found_type : Bytes → List Bytes → Ty
found_type null cells = found_kind null cells (found_nullability null cells)

-- the types that are found of the columns from a place on, one for each of these names
abbrev pub found_types : Bytes → ℕ → List Bytes → List (List Bytes) → List Ty
found_types null i [] rows = []
found_types null i (f ∷ names) rows = found_type null (map (cell_at i) rows) ∷ found_types null (i + 1) names rows

-- the types among which one is found: `i64`, `bool` and `utf8`, nullable or not
abbrev pub is_candidate : Ty → Bool
is_candidate (bool_ty n) = true
is_candidate (int_ty p n) = same_ptype p I64
is_candidate (text_ty n) = true
is_candidate (list_ty t n) = false
is_candidate (struct_ty fs n) = false

-- whether the kind of the first type is that of the second, or the second one is of texts
abbrev pub is_kind_within : Ty → Ty → Bool
is_kind_within t (text_ty n) = true
is_kind_within (bool_ty n) (bool_ty m) = true
is_kind_within (int_ty p n) (int_ty q m) = same_ptype p q
is_kind_within t u = false

-- whether the first type isn't nullable, or the second one is
abbrev pub is_null_within : Nullability → Nullability → Bool
is_null_within NonNullable m = true
is_null_within Nullable m = is_nullable m

-- whether a candidate is at most as wide as another one: `i64` and `bool` are within `utf8`, and each type is within itself made nullable
abbrev pub is_within : Ty → Ty → Bool
is_within t u = is_kind_within t u && is_null_within (nullability_of t) (nullability_of u)
