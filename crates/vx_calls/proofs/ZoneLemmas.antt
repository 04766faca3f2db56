-- The zones that arrays tell break no rule.
use Rattle.std.proofs.Common.{◌≡◌, ◌∙◌, refl, ap, ℕ, ◌==◌, true, List, [], ◌∷◌, map, length, option_map, unwrap_or}
use Rattle.std.proofs.Common.{Option, Some, None}
use Rattle.std.specs.Prelude.{is_some}
use Rattle.std.specs.List.{list_all}
use Rattle.std.proofs.lemmas.Bool.{and_parts, and_from}
use Rattle.std.proofs.lemmas.Bool.Decides.{Decides-eqb}
use Rattle.std.proofs.lemmas.List.{length-map}
use Rattle.vx_dtype.specs.declared.Nullability.TheVariants.{Nullable}
use Rattle.vx_dtype.specs.declared.PType.TheVariants.{U64}
use Rattle.vx_dtype.specs.Equal.{ty_eq}
use Rattle.vx_dtype.specs.EqualLaws.{ty_decides}
use Rattle.vx_dtype.specs.TypeRules.{no_name_twice}
use Rattle.vx_dtype.specs.Types.{Ty, int_ty, Fields}
use Rattle.vx_dtype.specs.Values.{Val}
use Rattle.vx_expr.specs.Trees.{Tree}
use Rattle.vx_semantics.specs.Tables.{ZoneStat, row_type}
use Rattle.vx_passes.specs.Falsifying.{Question}
use Rattle.vx_column.specs.Columns.{Column, zip_rows}
use Rattle.vx_column.specs.StructColumns.{all_have_rows, column_types}
use Rattle.vx_zones.specs.LeafTypes.{nullable}
use Rattle.vx_zones.specs.Zoning.{are_shallow, broken_rule, counts_blocks, distinct_statistics, has_its_type, type_of_statistic, values_have}
use Rattle.vx_laws_stats.specs.BuiltLaws.{path_and_stat}
use Rattle.vx_calls.specs.BlockZones.{cell_scalar, cell_type, cell_types, told_statistic, zones_told}
use Rattle.vx_calls.specs.Statistics.{needed_statistics}
use Rattle.vx_calls.proofs.StatisticLemmas.{passed, distinct_questions, distinct_seen, all_seen, question_type, is_possible}
use Rattle.vx_calls.proofs.StatisticLemmas.{needed_are_possible, needed_are_distinct}

abbrev Cells : Fields → List Question → List Column → Type 0
Cells columns qs cs = column_types cs ≡ map (cell_type columns) qs

-- what the statistics are of
told_are_of : (columns : Fields) (qs : List Question) (cs : List Column) → Cells columns qs cs → map path_and_stat (zip_rows told_statistic qs cs) ≡ qs
told_are_of columns [] cs h = refl
told_are_of columns (q ∷ qs) [] h = let no : ⊥ = cc in absurd no
told_are_of columns (q ∷ qs) (c ∷ cs) h =
    let rest : Cells columns qs cs = cc in
    ap (λ ps. q ∷ ps) (told_are_of columns qs cs rest)

-- each has a value per block
told_count : (lengths : List ℕ) (qs : List Question) (cs : List Column) → all_have_rows (length lengths) cs ≡ true
    → list_all (counts_blocks lengths) (zip_rows told_statistic qs cs) ≡ true
told_count lengths [] cs h = refl
told_count lengths (q ∷ qs) [] h = refl
told_count lengths (q ∷ qs) (c ∷ cs) h =
    let parts = and_parts (length c.rows == length lengths) (all_have_rows (length lengths) cs) h in
    let long : length (map (cell_scalar c.ty) c.rows) ≡ length lengths =
    length-map c.rows (cell_scalar c.ty) ∙ (Decides-eqb (length c.rows) (length lengths)).0 parts.0 in
    and_from (counts_blocks lengths (told_statistic q c)) (list_all (counts_blocks lengths) (zip_rows told_statistic qs cs))
    ((Decides-eqb (length (map (cell_scalar c.ty) c.rows)) (length lengths)).1 long) (told_count lengths qs cs parts.1)

-- of the statistic's type, made nullable
scalars_have : (t w : Ty) (vs : List Val) → t ≡ nullable w → values_have (map (cell_scalar t) vs) (Some w) ≡ true
scalars_have t w [] e = refl
scalars_have t w (v ∷ vs) e =
    and_from (ty_eq t (nullable w)) (values_have (map (cell_scalar t) vs) (Some w)) ((ty_decides t (nullable w)).1 e) (scalars_have t w vs e)

one_has : (t d : Ty) (o : Option Ty) (vs : List Val) → is_some o ≡ true → t ≡ unwrap_or (option_map nullable o) d
    → values_have (map (cell_scalar t) vs) o ≡ true
one_has t d None vs h e = let no : ⊥ = cc in absurd no
one_has t d (Some w) vs h e = scalars_have t w vs e

told_have : (columns : Fields) (qs : List Question) (cs : List Column) → Cells columns qs cs → list_all (is_possible columns) qs ≡ true
    → list_all (has_its_type columns) (zip_rows told_statistic qs cs) ≡ true
told_have columns [] cs h k = refl
told_have columns (q ∷ qs) [] h k = refl
told_have columns (q ∷ qs) (c ∷ cs) h k =
    let parts = and_parts (is_possible columns q) (list_all (is_possible columns) qs) k in
    let same : c.ty ≡ cell_type columns q = cc in
    let rest : Cells columns qs cs = cc in
    and_from (has_its_type columns (told_statistic q c)) (list_all (has_its_type columns) (zip_rows told_statistic qs cs))
    (one_has c.ty (int_ty U64 Nullable) (question_type columns q) c.rows parts.0 same) (told_have columns qs cs rest parts.1)

-- the zones that columns of these types tell, with a row for each block, break no rule
pub told_follow : (columns : Fields) (lengths : List ℕ) (tree : Tree) (cs : List Column) → no_name_twice (row_type columns) ≡ true → are_shallow columns ≡ true
    → column_types cs ≡ cell_types columns tree → all_have_rows (length lengths) cs ≡ true → broken_rule (zones_told columns lengths tree cs) ≡ None
unfolding broken_rule
told_follow columns lengths tree cs names shallow types rows =
    let qs = needed_statistics columns tree in
    let zs = zip_rows told_statistic qs cs in
    let of_these = told_are_of columns qs cs types in
    let possible = needed_are_possible columns tree names shallow in
    let leads : list_all (λ (z : ZoneStat). is_some (type_of_statistic columns z)) zs ≡ true =
    all_seen (is_possible columns) zs ∙ ap (list_all (is_possible columns)) of_these ∙ possible in
    let apart : distinct_statistics zs ≡ true = distinct_seen zs ∙ ap distinct_questions of_these ∙ needed_are_distinct columns tree names shallow in
    passed (no_name_twice (row_type columns)) _ _ names
    ∙ passed (are_shallow columns) _ _ shallow
    ∙ passed (list_all (λ (z : ZoneStat). is_some (type_of_statistic columns z)) zs) _ _ leads
    ∙ passed (distinct_statistics zs) _ _ apart
    ∙ passed (list_all (counts_blocks lengths) zs) _ _ (told_count lengths qs cs rows)
    ∙ passed (list_all (has_its_type columns) zs) _ _ (told_have columns qs cs types possible)
