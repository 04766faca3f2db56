-- The statistics that the rows of a table have break no rule of zones.
use Rattle.std.proofs.Common.{◌≡◌, refl, ap, sym, ◌∙◌, ℕ, suc, ◌<◌, ◌≤◌, ◌^◌, Bool, true, false, cond, not, ◌&&◌, ◌||◌, Some, List, [], ◌∷◌, map, length, arith}
use Rattle.std.specs.Prelude.{pos, is_some, leb}
use Rattle.std.specs.List.{list_all, list_any, filter, flat_map, AllByRecursion}
use Rattle.std.specs.Option.{option_and_then}
use Rattle.std.proofs.lemmas.Bool.{and_parts, and_from, and_right, eq-eqb, le-leb}
use Rattle.vx_dtype.specs.declared.PType.TheVariants.{U64}
use Rattle.vx_dtype.specs.declared.Nullability.TheVariants.{NonNullable, Nullable}
use Rattle.vx_dtype.specs.declared.CompareOperator.TheVariants.{Gte, Lte}
use Rattle.vx_dtype.specs.declared.Stat.{Stat}
use Rattle.vx_dtype.specs.declared.Stat.TheVariants.{Min, Max, NaNCount, NullCount}
use Rattle.vx_dtype.specs.Types.{Ty, bool_ty, int_ty, text_ty, Fields}
use Rattle.vx_dtype.specs.TypeRules.{is_plain, with_nullability, no_name_twice, same_ptype}
use Rattle.vx_dtype.specs.Values.{Val, null_val, bool_val, int_val, text_val}
use Rattle.vx_dtype.specs.Fits.{fits, val_fits, in_range}
use Rattle.vx_dtype.specs.Logic.{is_null_val}
use Rattle.vx_dtype.specs.Equal.{names_eq, ty_eq}
use Rattle.vx_dtype.specs.EqualLaws.{ty_decides}
use Rattle.vx_dtype.proofs.DistinctLemmas.{not_found}
use Rattle.vx_semantics.specs.Paths.{path_value}
use Rattle.vx_semantics.specs.Tables.{ZoneStat, row_type, same_stat}
use Rattle.vx_semantics.specs.Pruning.{is_statistic}
use Rattle.vx_zones.specs.Zoning.{type_of_statistic, statistic_type, distinct_statistics, counts_blocks, values_have, has_its_type, scalars_fit, are_shallow, broken_rule}
use Rattle.vx_laws_scan.specs.Agreeing.{all_rows_fit}
use Rattle.vx_laws_stats.specs.BuiltStatistics.{Leaf, leaves_below, least_of, greatest_of, values_at, null_count, built_type, raw_of, built_scalar, built_statistic, statistics_at}
use Rattle.vx_laws_stats.specs.BuiltLaws.{BuiltStatisticsBreakNoRule, BuiltValuesFit}
use Rattle.vx_laws_stats.proofs.Extremes.{is_of, lte_is_order, gte_is_order, first-of}
use Rattle.vx_laws_stats.proofs.LeafFacts.{IsLeaf, leaf-found, table-leaves}
use Rattle.vx_laws_stats.proofs.LeafPaths.{has_path, distinct_paths, distinct-of}
use Rattle.vx_laws_stats.proofs.HonestBlocks.{values-fit}

-- what is so of the three statistics of a plain field
abbrev at_field : Stat → Leaf → List (List Val) → ZoneStat
at_field stat l blocks = built_statistic stat l (map (values_at l.path) blocks)

abbrev AllThree : (ZoneStat → Bool) → List (List Val) → Leaf → Type 0
AllThree p blocks l = (p (at_field Min l blocks) ≡ true) × (p (at_field Max l blocks) ≡ true) × (p (at_field NullCount l blocks) ≡ true)

-- what is so of those of each plain field is so of all statistics
all-statistics : (p : ZoneStat → Bool) (blocks : List (List Val)) (ls : List Leaf)
    → AllByRecursion (AllThree p blocks) ls
    → list_all p (flat_map (statistics_at blocks) ls) ≡ true
all-statistics p blocks [] h = refl
all-statistics p blocks (l ∷ ls) h = rw (h.0.0, h.0.1, h.0.2) (all-statistics p blocks ls h.1)

each-leaf : (columns : Fields) (P : Leaf → Type 0) (ls : List Leaf) → ((l : Leaf) → IsLeaf columns l → P l) → AllByRecursion (IsLeaf columns) ls → AllByRecursion P ls
each-leaf columns P [] f h = tt
each-leaf columns P (l ∷ ls) f h = (f l h.0, each-leaf columns P ls f h.1)

-- no two are of one path and one kind
none-of : (blocks : List (List Val)) (z : ZoneStat) (ls : List Leaf) → has_path z.path ls ≡ false → list_any (is_statistic z.path z.stat) (flat_map (statistics_at blocks) ls) ≡ false
none-of blocks z [] h = refl
none-of blocks z (l ∷ ls) h = by-test (names_eq z.path l.path) h (none-of blocks z ls)
  where
    by-test : (b : Bool) → (b || has_path z.path ls) ≡ false
        → (has_path z.path ls ≡ false → list_any (is_statistic z.path z.stat) (flat_map (statistics_at blocks) ls) ≡ false)
        → ((b && same_stat z.stat Min) || ((b && same_stat z.stat Max) || ((b && same_stat z.stat NullCount) || list_any (is_statistic z.path z.stat) (flat_map (statistics_at blocks) ls)))) ≡ false
    by-test true k r = let no : ⊥ = cc in absurd no
    by-test false k r = r k

distinct : (blocks : List (List Val)) (ls : List Leaf) → distinct_paths ls ≡ true → distinct_statistics (flat_map (statistics_at blocks) ls) ≡ true
distinct blocks [] h = refl
distinct blocks (l ∷ ls) h =
    let parts = and_parts (not (has_path l.path ls)) (distinct_paths ls) h in
    let alone = not_found (has_path l.path ls) parts.0 in
    rw (
      and_right (names_eq l.path l.path) false refl,
      none-of blocks (at_field Min l blocks) ls alone,
      none-of blocks (at_field Max l blocks) ls alone,
      none-of blocks (at_field NullCount l blocks) ls alone,
    ) (distinct blocks ls parts.1)

pub count-map : {X Y : Type 0} (f : X → Y) (xs : List X) → length (map f xs) ≡ length xs
count-map f [] = refl
count-map f (x ∷ xs) = ap suc (count-map f xs)

counted : (blocks : List (List Val)) (stat : Stat) (l : Leaf) → counts_blocks (map length blocks) (at_field stat l blocks) ≡ true
counted blocks stat l =
    eq-eqb (length (map (built_scalar stat l.ty) (map (values_at l.path) blocks))) (length (map length blocks))
    (count-map (built_scalar stat l.ty) (map (values_at l.path) blocks) ∙ count-map (values_at l.path) blocks ∙ sym (count-map length blocks))

of-type : (stat : Stat) (t w : Ty) (columns : List (List Val)) → built_type stat t ≡ with_nullability w Nullable → values_have (map (built_scalar stat t) columns) (Some w) ≡ true
of-type stat t w [] e = refl
of-type stat t w (vs ∷ columns) e =
    and_from (ty_eq (built_type stat t) (with_nullability w Nullable)) (values_have (map (built_scalar stat t) columns) (Some w))
    ((ty_decides (built_type stat t) (with_nullability w Nullable)).1 e) (of-type stat t w columns e)

passed : {X : Type 0} (a : Bool) (x y : X) → a ≡ true → cond (not a) x y ≡ y
passed true x y h = refl
passed false x y h = let no : ⊥ = cc in absurd no

pub break_no_rule : BuiltStatisticsBreakNoRule
unfolding broken_rule
break_no_rule table h k =
    let columns = table.columns in
    let blocks = table.blocks in
    let ls = leaves_below columns in
    let leaves = table-leaves columns h in
    passed (no_name_twice (row_type columns)) _ _ h
    ∙ passed (are_shallow columns) _ _ k
    ∙ passed _ _ _ (all-statistics (λ z. is_some (type_of_statistic columns z)) blocks ls (each-leaf columns _ ls (λ l i. (
      ap (λ o. is_some (option_and_then (statistic_type Min) o)) (leaf-found columns l i),
      ap (λ o. is_some (option_and_then (statistic_type Max) o)) (leaf-found columns l i),
      ap (λ o. is_some (option_and_then (statistic_type NullCount) o)) (leaf-found columns l i),
    )) leaves))
    ∙ passed _ _ _ (distinct blocks ls (distinct-of (row_type columns) h))
    ∙ passed _ _ _ (all-statistics (counts_blocks (map length blocks)) blocks ls (each-leaf columns _ ls (λ l i. (
      counted blocks Min l,
      counted blocks Max l,
      counted blocks NullCount l,
    )) leaves))
    ∙ passed _ _ _ (all-statistics (has_its_type columns) blocks ls (each-leaf columns _ ls (λ l i. (
      ap (λ o. values_have (at_field Min l blocks).values (option_and_then (statistic_type Min) o)) (leaf-found columns l i) ∙ of-type Min l.ty l.ty (map (values_at l.path) blocks) refl,
      ap (λ o. values_have (at_field Max l blocks).values (option_and_then (statistic_type Max) o)) (leaf-found columns l i) ∙ of-type Max l.ty l.ty (map (values_at l.path) blocks) refl,
      ap (λ o. values_have (at_field NullCount l blocks).values (option_and_then (statistic_type NullCount) o)) (leaf-found columns l i)
          ∙ of-type NullCount l.ty (int_ty U64 NonNullable) (map (values_at l.path) blocks) refl,
    )) leaves))

-- the raw value of a plain value is one of the type
pub fits-again : (t : Ty) (v : Val) → is_plain t ≡ true → is_of t v ≡ true → fits (raw_of v) (with_nullability t Nullable) ≡ true
unfolding fits val_fits
fits-again (bool_ty n) null_val p h = refl
fits-again (bool_ty n) (bool_val b) p h = refl
fits-again (int_ty q n) null_val p h = refl
fits-again (int_ty q n) (int_val r i) p h = (and_parts (same_ptype r q) (in_range q i) h).1
fits-again (text_ty n) null_val p h = refl
fits-again (text_ty n) (text_val s) p h = refl
fits-again _ _ p h = let no : ⊥ = cc in absurd no

filtered : {X : Type 0} (p : X → Bool) (xs : List X) → length (filter p xs) ≤ length xs
filtered p [] = omega arith
filtered p (x ∷ xs) = by-test (p x) (filtered p xs)
  where
    by-test : (b : Bool) → length (filter p xs) ≤ length xs → length (cond b (x ∷ filter p xs) (filter p xs)) ≤ suc (length xs)
    by-test true h = omega (arith, h)
    by-test false h = omega (arith, h)

count-fits : (n : ℕ) → n < 2 ^ 64 → in_range U64 (pos n) ≡ true
count-fits n h = and_from (leb 0 n) (leb n 18446744073709551615) (le-leb 0 n (omega arith)) (le-leb n 18446744073709551615 (omega (arith, h)))

fitting : (columns : Fields) (l : Leaf) (stat : Stat) (rows : List Val) → IsLeaf columns l → list_all (λ row. val_fits row (row_type columns)) rows ≡ true → length rows < 2 ^ 64
    → fits (built_scalar stat l.ty (values_at l.path rows)).value (built_scalar stat l.ty (values_at l.path rows)).ty ≡ true
unfolding fits
fitting columns l Min rows h f c =
    let values = values-fit l.path (row_type columns) l.ty rows h.found f in
    fits-again l.ty (least_of (values_at l.path rows)) h.plain (first-of Lte l.ty lte_is_order h.plain (values_at l.path rows) values).own
fitting columns l Max rows h f c =
    let values = values-fit l.path (row_type columns) l.ty rows h.found f in
    fits-again l.ty (greatest_of (values_at l.path rows)) h.plain (first-of Gte l.ty gte_is_order h.plain (values_at l.path rows) values).own
fitting columns l NaNCount rows h f c = fits-again l.ty null_val h.plain refl
fitting columns l NullCount rows h f c =
    count-fits (null_count (values_at l.path rows)) (omega (arith, filtered is_null_val (values_at l.path rows), count-map (path_value l.path) rows, c))

all-fitting : (columns : Fields) (l : Leaf) (stat : Stat) (blocks : List (List Val)) → IsLeaf columns l → all_rows_fit (row_type columns) blocks ≡ true
    → AllByRecursion (λ rows. length rows < 2 ^ 64) blocks → scalars_fit (at_field stat l blocks).values ≡ true
all-fitting columns l stat [] h f c = refl
all-fitting columns l stat (rows ∷ blocks) h f c =
    let parts = and_parts (list_all (λ (row : Val). val_fits row (row_type columns)) rows) (all_rows_fit (row_type columns) blocks) f in
    let s = built_scalar stat l.ty (values_at l.path rows) in
    and_from (fits s.value s.ty) (scalars_fit (at_field stat l blocks).values) (fitting columns l stat rows h parts.0 c.0) (all-fitting columns l stat blocks h parts.1 c.1)

pub values_are_of_type : BuiltValuesFit
values_are_of_type table h c =
    all-statistics (λ z. scalars_fit z.values) table.blocks (leaves_below table.columns)
    (each-leaf table.columns _ (leaves_below table.columns)
    (λ l i. (
      all-fitting table.columns l Min table.blocks i h.fit c,
      all-fitting table.columns l Max table.blocks i h.fit c,
      all-fitting table.columns l NullCount table.blocks i h.fit c,
    )) (table-leaves table.columns h.names))
