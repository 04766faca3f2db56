-- Files of one folder as one table: its form, its statistics, and its two runs of blocks, those of the first file and those of the others.
use Rattle.std.proofs.Common.{◌≡◌, refl, ap, sym, ◌∙◌, subst, ℕ, suc, ◌+◌, Bool, true, List, [], ◌∷◌, ◌++◌, map, length, get_or, take, drop, arith, append-nil}
use Rattle.std.specs.List.{AllByRecursion, flat_map, list_all}
use Rattle.std.proofs.lemmas.Bool.{and_parts, and_from}
use Rattle.std.proofs.lemmas.List.{length-append, map-append, take_at, drop_at}
use Rattle.vx_dtype.specs.declared.Stat.{Stat}
use Rattle.vx_dtype.specs.declared.Stat.TheVariants.{Min, Max, NullCount}
use Rattle.vx_dtype.specs.Types.{Bytes, Fields}
use Rattle.vx_dtype.specs.Values.{Val, Typed, value_of}
use Rattle.vx_semantics.specs.Honest.{honest_value, honest_values}
use Rattle.vx_semantics.specs.Tables.{Table, ZoneStat, Zones}
use Rattle.vx_laws_stats.specs.BuiltLaws.{path_and_stat, three_of}
use Rattle.vx_laws_stats.specs.BuiltStatistics.{Leaf, leaves_below, stat_paths, built_scalar, built_statistic, values_at, statistics_at, built_stats, built_zones}
use Rattle.vx_laws_stats.proofs.BuiltZones.{count-map}
use Rattle.vx_laws_stats.proofs.PathFacts.{follow_paths}
use Rattle.vx_laws_file.proofs.Lists.{each_so}
use Rattle.vx_scan.specs.Cutting.{first_zones, later_zones, first_blocks, later_blocks}
use Rattle.vx_laws_shell.specs.Folders.{TableFile, stats_before, table_before, zones_before, file_before, files_joined, table_of_files, zones_of_files, FilesAreJoined}
use Rattle.vx_laws_shell.specs.Folders.{HasItsZones, IsOfForm, AreOneFolder, JoinedFilesAreHonest, built_file, BuiltFilesAreOneFolder, BuiltFilesHaveBuiltStatistics}

-- ---- blocks

pub files_are_joined : FilesAreJoined
files_are_joined first [] = sym (append-nil first.table.blocks)
files_are_joined first (next ∷ files) = ap (λ (blocks : List (List Val)). first.table.blocks ++ blocks) (files_are_joined next files)

-- ---- forms

abbrev Kind : Type 0
Kind = List Bytes × Stat

abbrev kinds_of : List ZoneStat → List Kind
kinds_of zs = map path_and_stat zs

-- equal lists have the same first item and the same others
same_first : {X : Type 0} (x y : X) (xs ys : List X) → x ∷ xs ≡ y ∷ ys → x ≡ y
same_first {X} x y xs ys e = ap (λ (zs : List X). get_or zs 0 x) e

same_others : {X : Type 0} (x y : X) (xs ys : List X) → x ∷ xs ≡ y ∷ ys → xs ≡ ys
same_others {X} x y xs ys e = ap (λ (zs : List X). drop 1 zs) e

none_is_some : {X : Type 0} (x : X) (xs : List X) → [] ≡ x ∷ xs → ⊥
none_is_some {X} x xs e = let long : 0 ≡ suc (length xs) = ap (λ (zs : List X). length zs) e in omega (arith, long)

kinds_before : (zs ws : List ZoneStat) → kinds_of ws ≡ kinds_of zs → kinds_of (stats_before zs ws) ≡ kinds_of zs
kinds_before [] ws e = refl
kinds_before (z ∷ zs) [] e = absurd (none_is_some (path_and_stat z) (kinds_of zs) e)
kinds_before (z ∷ zs) (w ∷ ws) e =
    ap (λ (kinds : List Kind). path_and_stat z ∷ kinds) (kinds_before zs ws (same_others (path_and_stat w) (path_and_stat z) (kinds_of ws) (kinds_of zs) e))

-- files that are of one form are of each other's
pub form_between : (form file other : TableFile) → IsOfForm form file → IsOfForm form other → IsOfForm file other
form_between form file other h k = record { columns = k.columns ∙ sym h.columns; stats = k.stats ∙ sym h.stats }

form_before : (form file other : TableFile) → IsOfForm form file → IsOfForm form other → IsOfForm form (file_before file other)
form_before form file other h k =
    record { columns = h.columns; stats = kinds_before file.zones.stats other.zones.stats (k.stats ∙ sym h.stats) ∙ h.stats }

-- ---- statistics are of their table

abbrev HasValues : ℕ → ZoneStat → Type 0
HasValues n z = length z.values ≡ n

counts_before : (m n : ℕ) (zs ws : List ZoneStat) → AllByRecursion (HasValues m) zs → AllByRecursion (HasValues n) ws → AllByRecursion (HasValues (m + n)) (stats_before zs ws)
counts_before m n [] ws h k = tt
counts_before m n (z ∷ zs) [] h k = tt
counts_before m n (z ∷ zs) (w ∷ ws) h k = (omega (arith, length-append z.values w.values, h.0, k.0), counts_before m n zs ws h.1 k.1)

pub has_before : (file other : TableFile) → HasItsZones file → HasItsZones other → HasItsZones (file_before file other)
has_before file other h k =
    let lengths = length-append file.zones.lengths other.zones.lengths in
    record {
      columns = h.columns;
      blocks = omega (arith, length-append file.table.blocks other.table.blocks, lengths, h.blocks, k.blocks);
      values = subst (λ (n : ℕ). AllByRecursion (HasValues n) (stats_before file.zones.stats other.zones.stats)) (sym lengths)
          (counts_before (length file.zones.lengths) (length other.zones.lengths) file.zones.stats other.zones.stats h.values k.values);
    }

-- what holds of files as one: their statistics are of their table, and they are of the form that each of them is of
pub record AreJoined (like first : TableFile) (files : List TableFile) : Type 0 where
  pub has : HasItsZones (files_joined first files)
  pub form : IsOfForm like (files_joined first files)

joined_by : (like first : TableFile) (files : List TableFile) → HasItsZones first → IsOfForm like first → AllByRecursion HasItsZones files → AllByRecursion (IsOfForm like) files
    → AreJoined like first files
joined_by like first [] h f hs fs = record { has = h; form = f }
joined_by like first (next ∷ files) h f hs fs =
    let rest = joined_by like next files hs.0 fs.0 hs.1 fs.1 in
    record { has = has_before first (files_joined next files) h rest.has; form = form_before like first (files_joined next files) f rest.form }

pub joined : (like next : TableFile) (files : List TableFile) → AreOneFolder like (next ∷ files) → AreJoined like next files
joined like next files h = joined_by like next files h.each_has.0 h.forms.0 h.each_has.1 h.forms.1

-- without the first file the others are of one folder
pub others_are : (first next : TableFile) (files : List TableFile) → AreOneFolder first (next ∷ files) → AreOneFolder next files
others_are first next files h =
    record {
      first_has = h.each_has.0;
      each_has = h.each_has.1;
      forms = each_so (IsOfForm first) (IsOfForm next) files (λ file f. form_between first next file h.forms.0 f) h.forms.1;
    }

-- ---- two runs of blocks

abbrev cut_stat : (List Typed → List Typed) → ZoneStat → ZoneStat
cut_stat cut z = record { path = z.path; stat = z.stat; values = cut z.values }

front_stats : (n : ℕ) (zs ws : List ZoneStat) → kinds_of ws ≡ kinds_of zs → AllByRecursion (HasValues n) zs → map (cut_stat (take n)) (stats_before zs ws) ≡ zs
front_stats n [] ws e h = refl
front_stats n (z ∷ zs) [] e h = absurd (none_is_some (path_and_stat z) (kinds_of zs) e)
front_stats n (z ∷ zs) (w ∷ ws) e h =
    let own = take_at z.values w.values n h.0 in
    let rest = front_stats n zs ws (same_others (path_and_stat w) (path_and_stat z) (kinds_of ws) (kinds_of zs) e) h.1 in
    λ i. record { path = z.path; stat = z.stat; values = own i } ∷ rest i

back_stats : (n : ℕ) (zs ws : List ZoneStat) → kinds_of ws ≡ kinds_of zs → AllByRecursion (HasValues n) zs → map (cut_stat (drop n)) (stats_before zs ws) ≡ ws
back_stats n [] [] e h = refl
back_stats n [] (w ∷ ws) e h = absurd (none_is_some (path_and_stat w) (kinds_of ws) (sym e))
back_stats n (z ∷ zs) [] e h = absurd (none_is_some (path_and_stat z) (kinds_of zs) e)
back_stats n (z ∷ zs) (w ∷ ws) e h =
    let kind = same_first (path_and_stat w) (path_and_stat z) (kinds_of ws) (kinds_of zs) e in
    let path : z.path ≡ w.path = ap (λ (k : Kind). k.0) (sym kind) in
    let stat : z.stat ≡ w.stat = ap (λ (k : Kind). k.1) (sym kind) in
    let own = drop_at z.values w.values n h.0 in
    let rest = back_stats n zs ws (same_others (path_and_stat w) (path_and_stat z) (kinds_of ws) (kinds_of zs) e) h.1 in
    λ i. record { path = path i; stat = stat i; values = own i } ∷ rest i

pub front_table : (table other : Table) → first_blocks (length table.blocks) (table_before table other) ≡ table
front_table table other =
    let blocks = take_at table.blocks other.blocks (length table.blocks) refl in
    λ i. record { columns = table.columns; blocks = blocks i }

pub back_table : (table other : Table) → other.columns ≡ table.columns → later_blocks (length table.blocks) (table_before table other) ≡ other
back_table table other same =
    let columns = sym same in
    let blocks = drop_at table.blocks other.blocks (length table.blocks) refl in
    λ i. record { columns = columns i; blocks = blocks i }

module _ (file other : TableFile) (h : HasItsZones file) (k : HasItsZones other) (f : IsOfForm file other) where
  counted : AllByRecursion (HasValues (length file.table.blocks)) file.zones.stats
  counted = subst (λ (n : ℕ). AllByRecursion (HasValues n) file.zones.stats) (sym h.blocks) h.values

  pub front_zones : first_zones (length file.table.blocks) (zones_before file.zones other.zones) ≡ file.zones
  front_zones =
      let lengths = take_at file.zones.lengths other.zones.lengths (length file.table.blocks) (sym h.blocks) in
      let stats = front_stats (length file.table.blocks) file.zones.stats other.zones.stats f.stats counted in
      λ i. record { columns = file.zones.columns; lengths = lengths i; stats = stats i }

  pub back_zones : later_zones (length file.table.blocks) (zones_before file.zones other.zones) ≡ other.zones
  back_zones =
      let columns : file.zones.columns ≡ other.zones.columns = h.columns ∙ sym f.columns ∙ sym k.columns in
      let lengths = drop_at file.zones.lengths other.zones.lengths (length file.table.blocks) (sym h.blocks) in
      let stats = back_stats (length file.table.blocks) file.zones.stats other.zones.stats f.stats counted in
      λ i. record { columns = columns i; lengths = lengths i; stats = stats i }

-- ---- honest statistics

honest_before : (stat : Stat) (path : List Bytes) (ss rs : List Typed) (blocks more : List (List Val)) → length ss ≡ length blocks
    → honest_values stat path ss blocks ≡ true → honest_values stat path rs more ≡ true → honest_values stat path (ss ++ rs) (blocks ++ more) ≡ true
honest_before stat path [] rs [] more n h k = k
honest_before stat path [] rs (rows ∷ blocks) more n h k = absurd (omega (arith, n))
honest_before stat path (s ∷ ss) rs [] more n h k = absurd (omega (arith, n))
honest_before stat path (s ∷ ss) rs (rows ∷ blocks) more n h k =
    let parts = and_parts (honest_value stat path (value_of s) rows) (honest_values stat path ss blocks) h in
    and_from (honest_value stat path (value_of s) rows) (honest_values stat path (ss ++ rs) (blocks ++ more)) parts.0
    (honest_before stat path ss rs blocks more (omega (arith, n)) parts.1 k)

abbrev are_honest : List (List Val) → List ZoneStat → Bool
are_honest blocks zs = list_all (λ (z : ZoneStat). honest_values z.stat z.path z.values blocks) zs

all_honest : (blocks more : List (List Val)) (zs ws : List ZoneStat) → kinds_of ws ≡ kinds_of zs → AllByRecursion (HasValues (length blocks)) zs
    → are_honest blocks zs ≡ true → are_honest more ws ≡ true → are_honest (blocks ++ more) (stats_before zs ws) ≡ true
all_honest blocks more [] ws e n h k = refl
all_honest blocks more (z ∷ zs) [] e n h k = refl
all_honest blocks more (z ∷ zs) (w ∷ ws) e n h k =
    let kind = same_first (path_and_stat w) (path_and_stat z) (kinds_of ws) (kinds_of zs) e in
    let own = and_parts (honest_values z.stat z.path z.values blocks) (are_honest blocks zs) h in
    let other = and_parts (honest_values w.stat w.path w.values more) (are_honest more ws) k in
    let moved = subst (λ (x : Kind). honest_values x.1 x.0 w.values more ≡ true) kind other.0 in
    and_from (honest_values z.stat z.path (z.values ++ w.values) (blocks ++ more)) (are_honest (blocks ++ more) (stats_before zs ws))
    (honest_before z.stat z.path z.values w.values blocks more n.0 own.0 moved)
    (all_honest blocks more zs ws (same_others (path_and_stat w) (path_and_stat z) (kinds_of ws) (kinds_of zs) e) n.1 own.1 other.1)

pub joined_files_are_honest : JoinedFilesAreHonest
joined_files_are_honest first [] h own each = own
joined_files_are_honest first (next ∷ files) h own each =
    let rest = joined first next files h in
    let others = joined_files_are_honest next files (others_are first next files h) each.0 each.1 in
    all_honest first.table.blocks (table_of_files next files).blocks first.zones.stats (zones_of_files next files).stats rest.form.stats
    (subst (λ (n : ℕ). AllByRecursion (HasValues n) first.zones.stats) (sym h.first_has.blocks) h.first_has.values) own others

-- ---- tables with the statistics that they have

all_of_leaves : (P : ZoneStat → Type 0) (blocks : List (List Val)) (ls : List Leaf) → ((stat : Stat) (l : Leaf) → P (built_statistic stat l (map (values_at l.path) blocks)))
    → AllByRecursion P (flat_map (statistics_at blocks) ls)
all_of_leaves P blocks [] h = tt
all_of_leaves P blocks (l ∷ ls) h = (h Min l, (h Max l, (h NullCount l, all_of_leaves P blocks ls h)))

built_has : (table : Table) → HasItsZones (built_file table)
built_has table =
    record {
      columns = refl;
      blocks = sym (count-map length table.blocks);
      values = all_of_leaves (HasValues (length (map length table.blocks))) table.blocks (leaves_below table.columns)
          (λ stat l. count-map (built_scalar stat l.ty) (map (values_at l.path) table.blocks) ∙ count-map (values_at l.path) table.blocks ∙ sym (count-map length table.blocks));
    }

built_kinds : (table other : Table) → other.columns ≡ table.columns → kinds_of (built_stats other) ≡ kinds_of (built_stats table)
built_kinds table other same = follow_paths other ∙ ap (λ (columns : Fields). flat_map three_of (stat_paths columns)) same ∙ sym (follow_paths table)

built_forms : (first : Table) (tables : List Table) → AllByRecursion (λ (table : Table). table.columns ≡ first.columns) tables
    → AllByRecursion HasItsZones (map built_file tables) × AllByRecursion (IsOfForm (built_file first)) (map built_file tables)
built_forms first [] h = (tt, tt)
built_forms first (table ∷ tables) h =
    let rest = built_forms first tables h.1 in
    ((built_has table, rest.0), (record { columns = h.0; stats = built_kinds first table h.0 }, rest.1))

pub built_files_are_one_folder : BuiltFilesAreOneFolder
built_files_are_one_folder first tables h =
    let rest = built_forms first tables h in
    record { first_has = built_has first; each_has = rest.0; forms = rest.1 }

-- the statistics of such a table before another one
pub columns_first : (first : TableFile) (files : List TableFile) → (table_of_files first files).columns ≡ first.table.columns
columns_first first [] = refl
columns_first first (next ∷ files) = refl

values_both : (stat : Stat) (l : Leaf) (blocks more : List (List Val))
    → map (built_scalar stat l.ty) (map (values_at l.path) (blocks ++ more))
    ≡ map (built_scalar stat l.ty) (map (values_at l.path) blocks) ++ map (built_scalar stat l.ty) (map (values_at l.path) more)
values_both stat l blocks more =
    ap (λ (columns : List (List Val)). map (built_scalar stat l.ty) columns) (map-append (values_at l.path) blocks more)
    ∙ map-append (built_scalar stat l.ty) (map (values_at l.path) blocks) (map (values_at l.path) more)

stats_both : (blocks more : List (List Val)) (ls : List Leaf)
    → flat_map (statistics_at (blocks ++ more)) ls ≡ stats_before (flat_map (statistics_at blocks) ls) (flat_map (statistics_at more) ls)
stats_both blocks more [] = refl
stats_both blocks more (l ∷ ls) =
    let least = values_both Min l blocks more in
    let greatest = values_both Max l blocks more in
    let nulls = values_both NullCount l blocks more in
    let rest = stats_both blocks more ls in
    λ i. record { path = l.path; stat = Min; values = least i }
    ∷ (record { path = l.path; stat = Max; values = greatest i } ∷ (record { path = l.path; stat = NullCount; values = nulls i } ∷ rest i))

zones_both : (table other : Table) → other.columns ≡ table.columns → zones_before (built_zones table) (built_zones other) ≡ built_zones (table_before table other)
zones_both table other same =
    let lengths = sym (map-append length table.blocks other.blocks) in
    let stats = ap (λ (columns : Fields). stats_before (built_stats table) (flat_map (statistics_at other.blocks) (leaves_below columns))) same
    ∙ sym (stats_both table.blocks other.blocks (leaves_below table.columns)) in
    λ i. record { columns = table.columns; lengths = lengths i; stats = stats i }

pub built_files_have_built_statistics : BuiltFilesHaveBuiltStatistics
built_files_have_built_statistics first [] h = refl
built_files_have_built_statistics first (table ∷ tables) h =
    let next = built_file table in
    let files = map built_file tables in
    let columns = each_so (λ (t : Table). t.columns ≡ first.columns) (λ (t : Table). t.columns ≡ table.columns) tables (λ t e. e ∙ sym h.0) h.1 in
    ap (λ (zones : Zones). zones_before (built_zones first) zones) (built_files_have_built_statistics table tables columns)
    ∙ zones_both first (table_of_files next files) (columns_first next files ∙ h.0)
