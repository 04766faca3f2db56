-- The statistics of some blocks: they break no rule where those of all blocks break none.
use Rattle.std.proofs.Common.{◌≡◌, refl, ap, sym, ◌∙◌, subst, ℕ, ◌+◌, ◌-◌, ◌<◌, ◌≤◌, Bool, true, false, cond, not, ◌&&◌, ◌||◌, Option, Some, None, List, [], ◌∷◌, ◌++◌, map, length, take, drop, get_or, slice_range, min, arith}
use Rattle.std.specs.Prelude.{is_some, Result, Ok, Err, IfErr}
use Rattle.std.specs.List.{list_all, list_any, All, AllByRecursion}
use Rattle.std.proofs.lemmas.Bool.{and_parts, eqb-true, eq-eqb}
use Rattle.std.proofs.lemmas.List.{length-take, length-drop, take_more, map_push}
use Rattle.std.proofs.lemmas.List.Elements.{All-from_recursion}
use Rattle.vx_dtype.specs.Types.{Bytes, Ty, Fields}
use Rattle.vx_dtype.specs.TypeRules.{no_name_twice, with_nullability}
use Rattle.vx_dtype.specs.declared.Nullability.TheVariants.{Nullable}
use Rattle.vx_dtype.specs.declared.Stat.{Stat}
use Rattle.vx_dtype.specs.Equal.{ty_eq}
use Rattle.vx_dtype.specs.Values.{Typed}
use Rattle.vx_semantics.specs.Tables.{ZoneStat, Zones, row_type}
use Rattle.vx_semantics.specs.Pruning.{is_statistic}
use Rattle.vx_zones.specs.declared.errors.ZoneError.{ZoneError}
use Rattle.vx_zones.specs.declared.errors.ZoneError.TheVariants as errors
use Rattle.vx_zones.specs.Zoning.{are_shallow, type_of_statistic, distinct_statistics, counts_blocks, values_have, has_its_type, broken_rule}
use Rattle.vx_zones.specs.ZoneAnswers.{MakesZones}
use Rattle.vx_scan.specs.Cutting.{first_zones, later_zones}
use Rattle.vx_block_parts.specs.Parts.{zones_between, stat_between}
use Rattle.vx_block_parts.proofs.SliceLemmas.{slice_between, all_first, all_later, all_so, all_mapped}

-- ---- the rules

-- a statistic, and zones, with so cut values
abbrev pub cut_stat : (List Typed → List Typed) → ZoneStat → ZoneStat
cut_stat cut z = record { path = z.path; stat = z.stat; values = cut z.values }

abbrev cut_zones : (List Typed → List Typed) → List ℕ → Zones → Zones
cut_zones cut lengths zones = record { columns = zones.columns; lengths = lengths; stats = map (cut_stat cut) zones.stats }

no_refusal : (b : Bool) (e : ZoneError) (r : Option ZoneError) → cond (not b) (Some e) r ≡ None → (b ≡ true) × (r ≡ None)
no_refusal true e r h = (refl, h)
no_refusal false e r h = absurd cc

still_none : (b : Bool) (e : ZoneError) (r : Option ZoneError) → b ≡ true → r ≡ None → cond (not b) (Some e) r ≡ None
still_none true e r h k = k
still_none false e r h k = absurd cc

any_cut : (cut : List Typed → List Typed) (path : List Bytes) (stat : Stat) (zs : List ZoneStat)
    → list_any (is_statistic path stat) (map (cut_stat cut) zs) ≡ list_any (is_statistic path stat) zs
any_cut cut path stat [] = refl
any_cut cut path stat (z ∷ zs) = ap (λ (b : Bool). is_statistic path stat z || b) (any_cut cut path stat zs)

distinct_cut : (cut : List Typed → List Typed) (zs : List ZoneStat) → distinct_statistics (map (cut_stat cut) zs) ≡ distinct_statistics zs
distinct_cut cut [] = refl
distinct_cut cut (z ∷ zs) = λ i. not (any_cut cut z.path z.stat zs i) && distinct_cut cut zs i

-- each value has its type
have_cut : (cut : List Typed → List Typed) → ((test : Typed → Bool) (values : List Typed) → list_all test values ≡ true → list_all test (cut values) ≡ true)
    → (values : List Typed) (o : Option Ty) → values_have values o ≡ true → values_have (cut values) o ≡ true
have_cut cut each values None h = h
have_cut cut each values (Some t) h = each (λ s. ty_eq s.ty (with_nullability t Nullable)) values h

types_cut : (cut : List Typed → List Typed) → ((test : Typed → Bool) (values : List Typed) → list_all test values ≡ true → list_all test (cut values) ≡ true)
    → (columns : Fields) (zs : List ZoneStat) → list_all (has_its_type columns) zs ≡ true → list_all (has_its_type columns) (map (cut_stat cut) zs) ≡ true
types_cut cut each columns zs h =
    all_mapped (has_its_type columns) (cut_stat cut) zs
    ∙ all_so (has_its_type columns) (λ z. has_its_type columns (cut_stat cut z)) (λ z k. have_cut cut each z.values (type_of_statistic columns z) k) zs h

-- there are as many as blocks
counts_cut : (cut : List Typed → List Typed) (lengths cut_lengths : List ℕ) → ((values : List Typed) → length values ≡ length lengths → length (cut values) ≡ length cut_lengths)
    → (zs : List ZoneStat) → list_all (counts_blocks lengths) zs ≡ true → list_all (counts_blocks cut_lengths) (map (cut_stat cut) zs) ≡ true
counts_cut cut lengths cut_lengths counted zs h =
    all_mapped (counts_blocks cut_lengths) (cut_stat cut) zs
    ∙ all_so (counts_blocks lengths) (λ z. counts_blocks cut_lengths (cut_stat cut z))
    (λ z k. eq-eqb (length (cut z.values)) (length cut_lengths) (counted z.values (eqb-true (length z.values) (length lengths) k))) zs h

keeps_rules : (cut : List Typed → List Typed) (lengths : List ℕ) (zones : Zones)
    → ((values : List Typed) → length values ≡ length zones.lengths → length (cut values) ≡ length lengths)
    → ((test : Typed → Bool) (values : List Typed) → list_all test values ≡ true → list_all test (cut values) ≡ true)
    → broken_rule zones ≡ None → broken_rule (cut_zones cut lengths zones) ≡ None
unfolding broken_rule
keeps_rules cut lengths zones counted each h =
    let leads : ZoneStat → Bool = λ s. is_some (type_of_statistic zones.columns s) in
    let names = no_refusal (no_name_twice (row_type zones.columns)) errors.DuplicateName _ h in
    let depths = no_refusal (are_shallow zones.columns) errors.DeepType _ names.1 in
    let paths = no_refusal (list_all leads zones.stats) errors.BadStatPath _ depths.1 in
    let doubles = no_refusal (distinct_statistics zones.stats) errors.DuplicateStat _ paths.1 in
    let counts = no_refusal (list_all (counts_blocks zones.lengths) zones.stats) errors.WrongStatCount _ doubles.1 in
    let types = no_refusal (list_all (has_its_type zones.columns) zones.stats) errors.WrongStatType _ counts.1 in
    still_none (no_name_twice (row_type zones.columns)) errors.DuplicateName _ names.0
    (still_none (are_shallow zones.columns) errors.DeepType _ depths.0
    (still_none (list_all leads (map (cut_stat cut) zones.stats)) errors.BadStatPath _ (all_mapped leads (cut_stat cut) zones.stats ∙ paths.0)
    (still_none (distinct_statistics (map (cut_stat cut) zones.stats)) errors.DuplicateStat _ (distinct_cut cut zones.stats ∙ doubles.0)
    (still_none (list_all (counts_blocks lengths) (map (cut_stat cut) zones.stats)) errors.WrongStatCount _ (counts_cut cut zones.lengths lengths counted zones.stats counts.0)
    (still_none (list_all (has_its_type zones.columns) (map (cut_stat cut) zones.stats)) errors.WrongStatType None (types_cut cut each zones.columns zones.stats types.0) refl)))))

rules_first : (n : ℕ) (zones : Zones) → broken_rule zones ≡ None → broken_rule (first_zones n zones) ≡ None
rules_first n zones h =
    keeps_rules (take n) (take n zones.lengths) zones
    (λ values e. length-take n values ∙ ap (λ (m : ℕ). min n m) e ∙ sym (length-take n zones.lengths)) (λ test values k. all_first test n values k) h

rules_later : (n : ℕ) (zones : Zones) → broken_rule zones ≡ None → broken_rule (later_zones n zones) ≡ None
rules_later n zones h =
    keeps_rules (drop n) (drop n zones.lengths) zones
    (λ values e. length-drop n values ∙ ap (λ (m : ℕ). m - n) e ∙ sym (length-drop n zones.lengths)) (λ test values k. all_later test n values k) h

rules_between : (from up_to : ℕ) (zones : Zones) → broken_rule zones ≡ None → broken_rule (zones_between from up_to zones) ≡ None
rules_between from up_to zones h = rules_later from (first_zones up_to zones) (rules_first up_to zones h)

-- ---- the statistics one by one

-- each has a value in each of so many blocks
each_long : (lengths : List ℕ) (n : ℕ) (stats : List ZoneStat) → n ≤ length lengths → list_all (counts_blocks lengths) stats ≡ true
    → AllByRecursion (λ (z : ZoneStat). n ≤ length z.values) stats
each_long lengths n [] few h = tt
each_long lengths n (z ∷ stats) few h =
    let parts = and_parts (counts_blocks lengths z) (list_all (counts_blocks lengths) stats) h in
    let long : length z.values ≡ length lengths = eqb-true (length z.values) (length lengths) parts.0 in
    (omega (arith, long, few), each_long lengths n stats few parts.1)

counts_there : (zones : Zones) → broken_rule zones ≡ None → list_all (counts_blocks zones.lengths) zones.stats ≡ true
unfolding broken_rule
counts_there zones h =
    let names = no_refusal (no_name_twice (row_type zones.columns)) errors.DuplicateName _ h in
    let depths = no_refusal (are_shallow zones.columns) errors.DeepType _ names.1 in
    let paths = no_refusal (list_all (λ (s : ZoneStat). is_some (type_of_statistic zones.columns s)) zones.stats) errors.BadStatPath _ depths.1 in
    let doubles = no_refusal (distinct_statistics zones.stats) errors.DuplicateStat _ paths.1 in
    (no_refusal (list_all (counts_blocks zones.lengths) zones.stats) errors.WrongStatCount _ doubles.1).0

pub stats_long : (zones : Zones) (stats : List ZoneStat) (n : ℕ) → broken_rule zones ≡ None → stats ≡ zones.stats → n ≤ length zones.lengths
    → All (λ (z : ZoneStat). n ≤ length z.values) stats
stats_long zones stats n h e few =
    All-from_recursion (λ (z : ZoneStat). n ≤ length z.values) stats
    (each_long zones.lengths n stats few (ap (list_all (counts_blocks zones.lengths)) e ∙ counts_there zones h))

-- one more of those that were made
pub one_stat_more : (from up_to : ℕ) (stats within : List ZoneStat) (i : ℕ) (stat made : ZoneStat) → i < length stats → stat ≡ get_or stats i stat
    → made ≡ stat_between from up_to stat → within ≡ map (stat_between from up_to) (take i stats)
    → within ++ made ∷ [] ≡ map (stat_between from up_to) (take (i + 1) stats)
one_stat_more from up_to stats within i stat made below at here so_far =
    let cut = stat_between from up_to in
    let next = get_or stats i stat in
    let whole : map cut (take (i + 1) stats) ≡ map cut (take i stats) ++ cut next ∷ [] =
    ap (map cut) (take_more stats i stat below) ∙ map_push cut (take i stats) next in
    let last : made ≡ cut next = here ∙ ap cut at in
    (λ k. so_far k ++ last k ∷ []) ∙ sym whole

stats_sliced : (from up_to : ℕ) (zs : List ZoneStat) → from ≤ up_to → map (stat_between from up_to) zs ≡ map (cut_stat (drop from)) (map (cut_stat (take up_to)) zs)
stats_sliced from up_to [] h = refl
stats_sliced from up_to (z ∷ zs) h =
    let values : slice_range z.values from up_to ≡ drop from (take up_to z.values) = slice_between from up_to z.values h in
    let rest = stats_sliced from up_to zs h in
    λ k. cut_stat (λ _. values k) z ∷ rest k

-- ---- the zones that are made

-- zones of these parts
abbrev pub zones_of : Fields → List ℕ → List ZoneStat → Zones
zones_of columns lengths stats = record { columns = columns; lengths = lengths; stats = stats }

zones_are : (from up_to : ℕ) (zones : Zones) (columns : Fields) (lengths : List ℕ) (stats : List ZoneStat) → from ≤ up_to → columns ≡ zones.columns
    → lengths ≡ slice_range zones.lengths from up_to → stats ≡ map (stat_between from up_to) zones.stats
    → zones_of columns lengths stats ≡ zones_between from up_to zones
zones_are from up_to zones columns lengths stats h c l s =
    let long : lengths ≡ drop from (take up_to zones.lengths) = l ∙ slice_between from up_to zones.lengths h in
    let each : stats ≡ (zones_between from up_to zones).stats = s ∙ stats_sliced from up_to zones.stats h in
    λ k. zones_of (c k) (long k) (each k)

unrefused : (zones : Zones) (result : Result Zones ZoneError) → broken_rule zones ≡ None → MakesZones zones result → IfErr result (λ e. e ≡ errors.NoMemory)
unrefused zones (Ok made) lawful told = tt
unrefused zones (Err errors.NoMemory) lawful told = refl
unrefused zones (Err errors.DuplicateName) lawful told = let no : ⊥ = cc in absurd no
unrefused zones (Err errors.DeepType) lawful told = let no : ⊥ = cc in absurd no
unrefused zones (Err errors.BadStatPath) lawful told = let no : ⊥ = cc in absurd no
unrefused zones (Err errors.DuplicateStat) lawful told = let no : ⊥ = cc in absurd no
unrefused zones (Err errors.WrongStatCount) lawful told = let no : ⊥ = cc in absurd no
unrefused zones (Err errors.WrongStatType) lawful told = let no : ⊥ = cc in absurd no

-- they are made of the parts
pub part_unrefused : (from up_to : ℕ) (zones : Zones) (columns : Fields) (lengths : List ℕ) (stats : List ZoneStat) (result : Result Zones ZoneError) → from ≤ up_to
    → broken_rule zones ≡ None → columns ≡ zones.columns → lengths ≡ slice_range zones.lengths from up_to → stats ≡ map (stat_between from up_to) zones.stats
    → MakesZones (zones_of columns lengths stats) result → IfErr result (λ e. e ≡ errors.NoMemory)
part_unrefused from up_to zones columns lengths stats result h rules c l s told =
    unrefused (zones_of columns lengths stats) result
    (ap broken_rule (zones_are from up_to zones columns lengths stats h c l s) ∙ rules_between from up_to zones rules) told

made_of : (zones made : Zones) (result : Result Zones ZoneError) → MakesZones zones result → result ≡ Ok made → made ≡ zones
made_of zones made result told e = (subst (λ (r : Result Zones ZoneError). MakesZones zones r) e told).0

pub part_made : (from up_to : ℕ) (zones made : Zones) (columns : Fields) (lengths : List ℕ) (stats : List ZoneStat) (result : Result Zones ZoneError) → from ≤ up_to
    → columns ≡ zones.columns → lengths ≡ slice_range zones.lengths from up_to → stats ≡ map (stat_between from up_to) zones.stats
    → MakesZones (zones_of columns lengths stats) result → result ≡ Ok made → made ≡ zones_between from up_to zones
part_made from up_to zones made columns lengths stats result h c l s told e =
    made_of (zones_of columns lengths stats) made result told e ∙ zones_are from up_to zones columns lengths stats h c l s
