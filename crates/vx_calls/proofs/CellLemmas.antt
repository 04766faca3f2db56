-- Cells of plain types as scalars, and the statistics whose values they are.
use Rattle.std.proofs.Common.{◌≡◌, ◌∙◌, refl, ap, sym, subst, Bool, true, false, cond, List, [], ◌∷◌, map, length}
use Rattle.std.proofs.Common.{option_map, unwrap_or, Option, Some, None}
use Rattle.std.specs.List.{list_all}
use Rattle.std.specs.Option.{option_and_then}
use Rattle.std.proofs.lemmas.Bool.{and_from}
use Rattle.std.proofs.lemmas.List.{length-map}
use Rattle.vx_dtype.specs.declared.Nullability.TheVariants.{Nullable}
use Rattle.vx_dtype.specs.declared.PType.TheVariants.{U64}
use Rattle.vx_dtype.specs.declared.Stat.{Stat}
use Rattle.vx_dtype.specs.declared.Stat.TheVariants.{Min, Max, NaNCount, NullCount}
use Rattle.vx_dtype.specs.Fits.{fits}
use Rattle.vx_dtype.specs.TypeRules.{is_plain}
use Rattle.vx_dtype.specs.Types.{Ty, bool_ty, int_ty, text_ty, list_ty, struct_ty, Fields}
use Rattle.vx_dtype.specs.Values.{Raw, raw_null, raw_bool, raw_int, raw_text, Val, Typed, valued, value_of}
use Rattle.vx_semantics.specs.Tables.{row_type}
use Rattle.vx_passes.specs.Falsifying.{Question}
use Rattle.vx_column.specs.Columns.{Column}
use Rattle.vx_column.specs.StructColumns.{column_types}
use Rattle.vx_zones.specs.LeafTypes.{nullable}
use Rattle.vx_zones.specs.Zoning.{leaf_type, plain_only, statistic_type, type_at}
use Rattle.vx_laws_stats.specs.BuiltStatistics.{raw_of}
use Rattle.vx_calls.specs.BlockZones.{cell_scalar, cell_type}

-- a raw value of a plain type is that of what it stands for
raw_again : (t : Ty) (x : Raw) → is_plain t ≡ true → fits x t ≡ true → raw_of (valued x t) ≡ x
unfolding fits valued
raw_again (bool_ty n) raw_null p h = refl
raw_again (bool_ty n) (raw_bool b) p h = refl
raw_again (bool_ty n) _ p h = let no : ⊥ = cc in absurd no
raw_again (int_ty q n) raw_null p h = refl
raw_again (int_ty q n) (raw_int i) p h = refl
raw_again (int_ty q n) _ p h = let no : ⊥ = cc in absurd no
raw_again (text_ty n) raw_null p h = refl
raw_again (text_ty n) (raw_text s) p h = refl
raw_again (text_ty n) _ p h = let no : ⊥ = cc in absurd no
raw_again (list_ty e n) x p h = let no : ⊥ = cc in absurd no
raw_again (struct_ty fs n) x p h = let no : ⊥ = cc in absurd no

-- so a scalar of a plain type that stands for a cell is the cell's
pub scalar_is : (s : Typed) (t : Ty) (v : Val) → s.ty ≡ t → is_plain t ≡ true → fits s.value s.ty ≡ true → value_of s ≡ v → s ≡ cell_scalar t v
scalar_is s t v same plain fit is =
    let raw : s.value ≡ raw_of v = sym (raw_again s.ty s.value (ap is_plain same ∙ plain) fit) ∙ ap raw_of is in
    λ i. record { ty = same i; value = raw i }

-- ---- types of cells

nullable_plain : (t : Ty) → is_plain (nullable t) ≡ is_plain t
nullable_plain (bool_ty n) = refl
nullable_plain (int_ty p n) = refl
nullable_plain (text_ty n) = refl
nullable_plain (list_ty e n) = refl
nullable_plain (struct_ty fs n) = refl

found_plain : (o : Option Ty) (t : Ty) → option_and_then plain_only o ≡ Some t → is_plain t ≡ true
found_plain None t h = let no : ⊥ = cc in absurd no
found_plain (Some u) t h = by-test (is_plain u) refl h
  where
    by-test : (b : Bool) → is_plain u ≡ b → cond b (Some u) None ≡ Some t → is_plain t ≡ true
    by-test true own k = let same : u ≡ t = cc in subst (λ (w : Ty). is_plain w ≡ true) same own
    by-test false own k = let no : ⊥ = cc in absurd no

left_plain : (stat : Stat) (o : Option Ty) (d : Ty) → is_plain d ≡ true → ((t : Ty) → o ≡ Some t → is_plain t ≡ true)
    → is_plain (unwrap_or (option_map nullable (option_and_then (statistic_type stat) o)) d) ≡ true
left_plain stat None d h k = h
left_plain Min (Some t) d h k = nullable_plain t ∙ k t refl
left_plain Max (Some t) d h k = nullable_plain t ∙ k t refl
left_plain NaNCount (Some t) d h k = h
left_plain NullCount (Some t) d h k = refl

-- the cells of a statistic are of a plain type
cell_plain : (columns : Fields) (q : Question) → is_plain (cell_type columns q) ≡ true
cell_plain columns q =
    left_plain q.1 (leaf_type columns q.0) (int_ty U64 Nullable) refl (λ t h. found_plain (type_at q.0 (row_type columns)) t h)

-- so are those of columns of these types
pub cells_plain : (columns : Fields) (qs : List Question) (cs : List Column) → column_types cs ≡ map (cell_type columns) qs
    → list_all (λ c. is_plain c.ty) cs ≡ true
cells_plain columns qs [] h = refl
cells_plain columns [] (c ∷ cs) h = let no : ⊥ = cc in absurd no
cells_plain columns (q ∷ qs) (c ∷ cs) h =
    let same : c.ty ≡ cell_type columns q = cc in
    let rest : column_types cs ≡ map (cell_type columns) qs = cc in
    and_from (is_plain c.ty) (list_all (λ (x : Column). is_plain x.ty) cs) (ap is_plain same ∙ cell_plain columns q) (cells_plain columns qs cs rest)

-- there are as many columns as statistics
pub as_many : (columns : Fields) (qs : List Question) (cs : List Column) → column_types cs ≡ map (cell_type columns) qs → length qs ≡ length cs
as_many columns qs cs h = sym (length-map qs (cell_type columns)) ∙ sym (ap length h) ∙ length-map cs (λ c. c.ty)
