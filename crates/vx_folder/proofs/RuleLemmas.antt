-- The statistics of files that are alike break no rule as one.
use Rattle.std.proofs.Common.{◌≡◌, refl, ap, sym, ◌∙◌, subst, ℕ, ◌+◌, Bool, true, false, cond, not, ◌&&◌, ◌||◌, Option, Some, None, List, [], ◌∷◌, ◌++◌, length, length-append}
use Rattle.std.specs.Prelude.{is_some, Result, Ok, Err, IfErr}
use Rattle.std.specs.List.{list_all, list_any}
use Rattle.std.specs.Option.{option_and_then}
use Rattle.std.proofs.lemmas.Bool.{and_parts, and_from, eqb-true, eq-eqb}
use Rattle.vx_dtype.specs.Types.{Bytes, Ty, Fields}
use Rattle.vx_dtype.specs.TypeRules.{no_name_twice, with_nullability}
use Rattle.vx_dtype.specs.declared.Nullability.TheVariants.{Nullable}
use Rattle.vx_dtype.specs.declared.Stat.{Stat}
use Rattle.vx_dtype.specs.Equal.{ty_eq}
use Rattle.vx_dtype.specs.Values.{Typed}
use Rattle.vx_semantics.specs.Tables.{ZoneStat, Zones, row_type}
use Rattle.vx_semantics.specs.Pruning.{is_statistic}
use Rattle.vx_zones.specs.declared.errors.ZoneError.{ZoneError}
use Rattle.vx_zones.specs.declared.errors.ZoneError.TheVariants as errors
use Rattle.vx_zones.specs.Zoning.{are_shallow, leaf_type, statistic_type, type_of_statistic, distinct_statistics, counts_blocks, values_have, has_its_type, broken_rule}
use Rattle.vx_zones.specs.ZoneAnswers.{MakesZones}
use Rattle.vx_laws_stats.specs.BuiltLaws.{path_and_stat}
use Rattle.vx_laws_shell.specs.Folders.{stat_before, stats_before, zones_before}
use Rattle.vx_folder.specs.FolderAnswers.{AreOfForm}
use Rattle.vx_folder.proofs.JoinLemmas.{Kind, kinds_of}
use Rattle.vx_folder.proofs.WholeLemmas.{all_joined}

-- ---- one rule after another

no_refusal : (b : Bool) (e : ZoneError) (r : Option ZoneError) → cond (not b) (Some e) r ≡ None → (b ≡ true) × (r ≡ None)
no_refusal true e r h = (refl, h)
no_refusal false e r h = absurd cc

still_none : (b : Bool) (e : ZoneError) (r : Option ZoneError) → b ≡ true → r ≡ None → cond (not b) (Some e) r ≡ None
still_none true e r h k = k
still_none false e r h k = absurd cc

abbrev leads : Fields → ZoneStat → Bool
leads columns z = is_some (type_of_statistic columns z)

-- that the rules aren't broken
pub record AreLawful (z : Zones) : Type 0 where
  pub names : no_name_twice (row_type z.columns) ≡ true
  pub depths : are_shallow z.columns ≡ true
  pub paths : list_all (leads z.columns) z.stats ≡ true
  pub doubles : distinct_statistics z.stats ≡ true
  pub counts : list_all (counts_blocks z.lengths) z.stats ≡ true
  pub types : list_all (has_its_type z.columns) z.stats ≡ true

pub lawful : (z : Zones) → broken_rule z ≡ None → AreLawful z
unfolding broken_rule
lawful z h =
    let names = no_refusal (no_name_twice (row_type z.columns)) errors.DuplicateName _ h in
    let depths = no_refusal (are_shallow z.columns) errors.DeepType _ names.1 in
    let paths = no_refusal (list_all (leads z.columns) z.stats) errors.BadStatPath _ depths.1 in
    let doubles = no_refusal (distinct_statistics z.stats) errors.DuplicateStat _ paths.1 in
    let counts = no_refusal (list_all (counts_blocks z.lengths) z.stats) errors.WrongStatCount _ doubles.1 in
    let types = no_refusal (list_all (has_its_type z.columns) z.stats) errors.WrongStatType _ counts.1 in
    record { names = names.0; depths = depths.0; paths = paths.0; doubles = doubles.0; counts = counts.0; types = types.0 }

unbroken : (z : Zones) → AreLawful z → broken_rule z ≡ None
unfolding broken_rule
unbroken z h =
    still_none (no_name_twice (row_type z.columns)) errors.DuplicateName _ h.names
    (still_none (are_shallow z.columns) errors.DeepType _ h.depths
    (still_none (list_all (leads z.columns) z.stats) errors.BadStatPath _ h.paths
    (still_none (distinct_statistics z.stats) errors.DuplicateStat _ h.doubles
    (still_none (list_all (counts_blocks z.lengths) z.stats) errors.WrongStatCount _ h.counts
    (still_none (list_all (has_its_type z.columns) z.stats) errors.WrongStatType None h.types refl)))))

-- ---- the statistics of two files as one

first_same : (x y : Kind) (xs ys : List Kind) → x ∷ xs ≡ y ∷ ys → x ≡ y
first_same x y xs ys e = cc

others_same : (x y : Kind) (xs ys : List Kind) → x ∷ xs ≡ y ∷ ys → xs ≡ ys
others_same x y xs ys e = cc

none_is_some : (x : Kind) (xs : List Kind) → ¬ ([] ≡ x ∷ xs)
none_is_some x xs e = cc

paths_before : (columns : Fields) (zs ws : List ZoneStat) → list_all (leads columns) zs ≡ true → list_all (leads columns) (stats_before zs ws) ≡ true
paths_before columns [] ws h = refl
paths_before columns (z ∷ zs) [] h = refl
paths_before columns (z ∷ zs) (w ∷ ws) h =
    let parts = and_parts (leads columns z) (list_all (leads columns) zs) h in
    and_from (leads columns (stat_before z w)) (list_all (leads columns) (stats_before zs ws)) parts.0 (paths_before columns zs ws parts.1)

any_before : (path : List Bytes) (stat : Stat) (zs ws : List ZoneStat) → kinds_of ws ≡ kinds_of zs
    → list_any (is_statistic path stat) (stats_before zs ws) ≡ list_any (is_statistic path stat) zs
any_before path stat [] ws e = refl
any_before path stat (z ∷ zs) [] e = absurd (none_is_some (path_and_stat z) (kinds_of zs) e)
any_before path stat (z ∷ zs) (w ∷ ws) e =
    ap (λ (b : Bool). is_statistic path stat z || b)
    (any_before path stat zs ws (others_same (path_and_stat w) (path_and_stat z) (kinds_of ws) (kinds_of zs) e))

distinct_before : (zs ws : List ZoneStat) → kinds_of ws ≡ kinds_of zs → distinct_statistics (stats_before zs ws) ≡ distinct_statistics zs
distinct_before [] ws e = refl
distinct_before (z ∷ zs) [] e = absurd (none_is_some (path_and_stat z) (kinds_of zs) e)
distinct_before (z ∷ zs) (w ∷ ws) e =
    let others = others_same (path_and_stat w) (path_and_stat z) (kinds_of ws) (kinds_of zs) e in
    let any = any_before z.path z.stat zs ws others in
    let rest = distinct_before zs ws others in
    λ i. not (any i) && rest i

counts_before : (ns ms : List ℕ) (zs ws : List ZoneStat) → list_all (counts_blocks ns) zs ≡ true → list_all (counts_blocks ms) ws ≡ true
    → list_all (counts_blocks (ns ++ ms)) (stats_before zs ws) ≡ true
counts_before ns ms [] ws h k = refl
counts_before ns ms (z ∷ zs) [] h k = refl
counts_before ns ms (z ∷ zs) (w ∷ ws) h k =
    let own = and_parts (counts_blocks ns z) (list_all (counts_blocks ns) zs) h in
    let other = and_parts (counts_blocks ms w) (list_all (counts_blocks ms) ws) k in
    let a : length z.values ≡ length ns = eqb-true (length z.values) (length ns) own.0 in
    let b : length w.values ≡ length ms = eqb-true (length w.values) (length ms) other.0 in
    let c : length (z.values ++ w.values) ≡ length (ns ++ ms) = length-append z.values w.values ∙ (λ i. a i + b i) ∙ sym (length-append ns ms) in
    and_from (counts_blocks (ns ++ ms) (stat_before z w)) (list_all (counts_blocks (ns ++ ms)) (stats_before zs ws)) (eq-eqb _ _ c)
    (counts_before ns ms zs ws own.1 other.1)

have_joined : (values more : List Typed) (o : Option Ty) → values_have values o ≡ true → values_have more o ≡ true → values_have (values ++ more) o ≡ true
have_joined values more None h k = h
have_joined values more (Some t) h k = all_joined (λ s. ty_eq s.ty (with_nullability t Nullable)) values more h k

-- the type of a statistic by its path and kind
abbrev type_of_kind : Fields → Kind → Option Ty
type_of_kind columns kind = option_and_then (statistic_type kind.1) (leaf_type columns kind.0)

types_before : (columns : Fields) (zs ws : List ZoneStat) → kinds_of ws ≡ kinds_of zs → list_all (has_its_type columns) zs ≡ true → list_all (has_its_type columns) ws ≡ true
    → list_all (has_its_type columns) (stats_before zs ws) ≡ true
types_before columns [] ws e h k = refl
types_before columns (z ∷ zs) [] e h k = refl
types_before columns (z ∷ zs) (w ∷ ws) e h k =
    let own = and_parts (has_its_type columns z) (list_all (has_its_type columns) zs) h in
    let other = and_parts (has_its_type columns w) (list_all (has_its_type columns) ws) k in
    let same : path_and_stat w ≡ path_and_stat z = first_same (path_and_stat w) (path_and_stat z) (kinds_of ws) (kinds_of zs) e in
    let more = subst (λ (kind : Kind). values_have w.values (type_of_kind columns kind) ≡ true) same other.0 in
    and_from (has_its_type columns (stat_before z w)) (list_all (has_its_type columns) (stats_before zs ws))
    (have_joined z.values w.values (type_of_statistic columns z) own.0 more)
    (types_before columns zs ws (others_same (path_and_stat w) (path_and_stat z) (kinds_of ws) (kinds_of zs) e) own.1 other.1)

pub rules_before : (zones other : Zones) → AreOfForm zones other → broken_rule zones ≡ None → broken_rule other ≡ None → broken_rule (zones_before zones other) ≡ None
rules_before zones other form h k =
    let own = lawful zones h in
    let more = lawful other k in
    unbroken (zones_before zones other) (record {
      names = own.names;
      depths = own.depths;
      paths = paths_before zones.columns zones.stats other.stats own.paths;
      doubles = distinct_before zones.stats other.stats form.stats ∙ own.doubles;
      counts = counts_before zones.lengths other.lengths zones.stats other.stats own.counts more.counts;
      types = types_before zones.columns zones.stats other.stats form.stats own.types
          (subst (λ (fs : Fields). list_all (has_its_type fs) other.stats ≡ true) form.columns more.types);
    })

-- ---- zones that are made

pub unrefused : (zones : Zones) (result : Result Zones ZoneError) → broken_rule zones ≡ None → MakesZones zones result → IfErr result (λ e. e ≡ errors.NoMemory)
unrefused zones (Ok made) lawful told = tt
unrefused zones (Err errors.NoMemory) lawful told = refl
unrefused zones (Err errors.DuplicateName) lawful told = let no : ⊥ = cc in absurd no
unrefused zones (Err errors.DeepType) lawful told = let no : ⊥ = cc in absurd no
unrefused zones (Err errors.BadStatPath) lawful told = let no : ⊥ = cc in absurd no
unrefused zones (Err errors.DuplicateStat) lawful told = let no : ⊥ = cc in absurd no
unrefused zones (Err errors.WrongStatCount) lawful told = let no : ⊥ = cc in absurd no
unrefused zones (Err errors.WrongStatType) lawful told = let no : ⊥ = cc in absurd no

pub made_of : (zones made : Zones) (result : Result Zones ZoneError) → MakesZones zones result → result ≡ Ok made → made ≡ zones
made_of zones made result told e = (subst (λ (r : Result Zones ZoneError). MakesZones zones r) e told).0
