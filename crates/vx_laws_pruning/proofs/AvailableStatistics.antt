-- The statistics of zones that are available, and the paths that stand for statistics where none stands twice.
use Rattle.std.proofs.Common.{◌≡◌, refl, ap, sym, ◌∙◌, Bool, true, false, cond, not, ◌&&◌, ◌||◌, Option, Some, None, List, [], ◌∷◌, ◌++◌, map, append_assoc, append-nil}
use Rattle.std.specs.Prelude.{is_some, nat_eq, length}
use Rattle.std.specs.List.{filter, find, fold, list_any, AllByRecursion}
use Rattle.std.proofs.lemmas.Bool.{and_parts, and_from, or_parts, or_from}
use Rattle.std.proofs.lemmas.List.Folds.{list_any-append}
use Rattle.vx_dtype.specs.Types.{Bytes}
use Rattle.vx_dtype.specs.declared.Stat.{Stat}
use Rattle.vx_dtype.specs.declared.Stat.TheVariants.{Min, Max, NaNCount, NullCount}
use Rattle.vx_dtype.specs.Equal.{names_eq}
use Rattle.vx_dtype.specs.EqualLaws.{names_decides}
use Rattle.vx_dtype.specs.Paths.{has_path, with_path}
use Rattle.vx_semantics.specs.Tables.{Zones, ZoneStat, same_stat, joined_name, statistic_path}
use Rattle.vx_semantics.specs.Pruning.{is_joined, is_statistic, available}
use Rattle.vx_passes.specs.Catalogs.{available_paths}
use Rattle.vx_passes.specs.PruningTables.{available_statistics}
use Rattle.vx_zones.specs.Zoning.{distinct_statistics}
use Rattle.vx_zones.specs.ZoneViews.{statistic_paths}
use Rattle.vx_laws.proofs.EachNode.{all-map}
use Rattle.vx_laws_pruning.proofs.Columns.{statistic_path-same}

-- the path that stands for a statistic
abbrev path_for : ZoneStat → List Bytes
path_for z = statistic_path z.path z.stat

not-true : (b : Bool) → not b ≡ true → b ≡ false
not-true true h = let no : ⊥ = cc in absurd no
not-true false h = refl

-- a path that is new among some stays so behind another one
still-new : (z : ZoneStat) (ps : List (List Bytes)) (zs : List ZoneStat) → list_any (is_statistic z.path z.stat) zs ≡ false → AllByRecursion (λ y. has_path (path_for y) ps ≡ false) zs
    → AllByRecursion (λ y. has_path (path_for y) (ps ++ path_for z ∷ []) ≡ false) zs
still-new z ps [] h k = tt
still-new z ps (y ∷ ys) h k =
    let parts = or_parts (is_statistic z.path z.stat y) (list_any (is_statistic z.path z.stat) ys) h in
    let other : names_eq (path_for z) (path_for y) ≡ false = statistic_path-same z.path z.stat y ∙ parts.0 in (
      list_any-append (λ q. names_eq q (path_for y)) ps (path_for z ∷ [])
          ∙ or_from (has_path (path_for y) ps) (names_eq (path_for z) (path_for y) || false) k.0 (or_from (names_eq (path_for z) (path_for y)) false other refl),
      still-new z ps ys parts.1 k.1,
    )

paths-behind : (ps : List (List Bytes)) (zs : List ZoneStat) → distinct_statistics zs ≡ true → AllByRecursion (λ y. has_path (path_for y) ps ≡ false) zs
    → fold (λ (qs : List (List Bytes)) (z : ZoneStat). with_path (path_for z) qs) ps zs ≡ ps ++ map path_for zs
paths-behind ps [] d h = sym (append-nil ps)
paths-behind ps (z ∷ zs) d h =
    let parts = and_parts (not (list_any (is_statistic z.path z.stat) zs)) (distinct_statistics zs) d in
    let added : with_path (path_for z) ps ≡ ps ++ path_for z ∷ [] = ap (λ (b : Bool). cond b ps (ps ++ path_for z ∷ [])) h.0 in
    ap (λ (qs : List (List Bytes)). fold (λ (rs : List (List Bytes)) (y : ZoneStat). with_path (path_for y) rs) qs zs) added
    ∙ (paths-behind (ps ++ path_for z ∷ []) zs parts.1 (still-new z ps zs (not-true (list_any (is_statistic z.path z.stat) zs) parts.0) h.1)
    ∙ append_assoc ps (path_for z ∷ []) (map path_for zs))

none-there : (zs : List ZoneStat) → AllByRecursion (λ y. has_path (path_for y) [] ≡ false) zs
none-there [] = tt
none-there (z ∷ zs) = (refl, none-there zs)

-- where no statistic stands twice, the paths that stand for statistics are one for each
pub distinct-paths : (zones : Zones) → distinct_statistics zones.stats ≡ true → statistic_paths zones.stats ≡ available_paths zones
distinct-paths zones d = paths-behind [] zones.stats d (none-there zones.stats)

same_stat-itself : (s : Stat) → same_stat s s ≡ true
same_stat-itself Min = refl
same_stat-itself Max = refl
same_stat-itself NaNCount = refl
same_stat-itself NullCount = refl

statistic-itself : (z : ZoneStat) → is_statistic z.path z.stat z ≡ true
statistic-itself z = and_from (names_eq z.path z.path) (same_stat z.stat z.stat) ((names_decides z.path z.path).1 refl) (same_stat-itself z.stat)

-- each statistic is found among them by its path and kind
own-found : (zs : List ZoneStat) → AllByRecursion (λ y. is_some (find (is_statistic y.path y.stat) zs) ≡ true) zs
own-found [] = tt
own-found (z ∷ zs) = (
  ap (λ (b : Bool). is_some (cond b (Some z) (find (is_statistic z.path z.stat) zs))) (statistic-itself z),
  all-map (λ y. is_some (find (is_statistic y.path y.stat) zs) ≡ true) (λ y. is_some (find (is_statistic y.path y.stat) (z ∷ zs)) ≡ true) zs further (own-found zs),
)
  where
    further : (y : ZoneStat) → is_some (find (is_statistic y.path y.stat) zs) ≡ true → is_some (find (is_statistic y.path y.stat) (z ∷ zs)) ≡ true
    further y h = by-test (is_statistic y.path y.stat z)
      where
        by-test : (b : Bool) → is_some (cond b (Some z) (find (is_statistic y.path y.stat) zs)) ≡ true
        by-test true = refl
        by-test false = h

filter-same : {X : Type 0} (f g : X → Bool) (xs : List X) → AllByRecursion (λ x. f x ≡ g x) xs → filter f xs ≡ filter g xs
filter-same f g [] h = refl
filter-same f g (x ∷ xs) h = λ i. cond (h.0 i) (x ∷ filter-same f g xs h.1 i) (filter-same f g xs h.1 i)

-- whether a statistic alone has its joined name among those of zones
abbrev pub is_alone_in : List ZoneStat → ZoneStat → Bool
is_alone_in zs z = nat_eq (length (filter (is_joined (joined_name z.path z.stat)) zs)) 1

-- the available statistics are those that alone have their joined names
pub available-alone : (zones : Zones) → available_statistics zones ≡ filter (is_alone_in zones.stats) zones.stats
available-alone zones =
    filter-same (λ z. is_some (available zones z.path z.stat)) (is_alone_in zones.stats) zones.stats
    (all-map (λ y. is_some (find (is_statistic y.path y.stat) zones.stats) ≡ true) (λ y. is_some (available zones y.path y.stat) ≡ is_alone_in zones.stats y) zones.stats
    (λ y h. by-count y (is_alone_in zones.stats y) h) (own-found zones.stats))
  where
    by-count : (y : ZoneStat) (b : Bool) → is_some (find (is_statistic y.path y.stat) zones.stats) ≡ true → is_some (cond b (find (is_statistic y.path y.stat) zones.stats) None) ≡ b
    by-count y true h = h
    by-count y false h = refl
